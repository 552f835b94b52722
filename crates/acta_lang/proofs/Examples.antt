-- Examples: the models of some texts, and the faults of others.
use Rattle.std.specs.Fmt.{digits}
use Rattle.std.specs.Prelude.{ℕ, List, [], ◌∷◌, ◌++◌, codes, replicate, Option, Some, None, Result, Ok, Err, ◌≡◌, refl, neg_ℤ, pos, true, false}
use Rattle.acta_table.specs.declared.dep.Dep.{Dep}
use Rattle.acta_table.specs.declared.dep.Dep.TheVariants.{Cd, Wd}
use Rattle.acta_table.specs.declared.model.AtCommit.TheVariants.{Keeps, ToParent}
use Rattle.acta_table.specs.declared.model.Class.{Class}
use Rattle.acta_table.specs.declared.model.Extent.TheVariants.{Whole}
use Rattle.acta_table.specs.declared.model.Kind.{Kind}
use Rattle.acta_table.specs.declared.model.Kind.TheVariants.{Register, Counter, Elements}
use Rattle.acta_table.specs.declared.model.Object.{Object}
use Rattle.acta_table.specs.declared.model.Parts.{Parts}
use Rattle.acta_table.specs.declared.model.Scope.TheVariants.{Others, NonAncestors}
use Rattle.acta_table.specs.declared.policy.Policy.TheVariants.{Refuse, Depend}
use Rattle.acta_table.specs.declared.start_edges.Dependent.{Dependent}
use Rattle.acta_table.specs.declared.start_edges.Dependent.TheVariants.{Starter, Started}
use Rattle.acta_table.specs.declared.start_edges.StartEdge.{StartEdge}
use Rattle.acta_table.specs.declared.limits.TheConstants.{MOST_CLASSES, MOST_OBJECTS}
use Rattle.acta_words.specs.Text.{text_of}
use Rattle.acta_lang.specs.declared.diagnostic.Expected.{Expected}
use Rattle.acta_lang.specs.declared.diagnostic.Expected.TheVariants as want
use Rattle.acta_lang.specs.declared.fault.AsmFault.{AsmFault}
use Rattle.acta_lang.specs.declared.fault.Code.{Code}
use Rattle.acta_lang.specs.declared.fault.Code.TheVariants.{NotAscii, BadWord, BadName, DuplicateName, WrongPlace, BadNumber, TooMany, MissingEnd, MissingPart, BeginKindAtStart, HeirWithoutSpawn, BadPolicyKind}
use Rattle.acta_lang.specs.Canonical.{canonical, may_words}
use Rattle.acta_lang.specs.Diagnostics.{Diagnostic, diagnosed}
use Rattle.acta_lang.specs.Drafts.{Draft, extended}
use Rattle.acta_lang.specs.Faults.{not_ascii, bad_word, bad_name, duplicate_name, wrong_place, bad_number, too_many, missing_end, missing_part, begin_kind_at_start, heir_without_spawn, bad_policy_kind, code_at}
use Rattle.acta_lang.specs.Lines.{ClassAt, begun, no_lines}
use Rattle.acta_lang.specs.Meaning.{meaning, meaning_after}

-- a model, or a fault; which allocator there is makes no difference
abbrev Meant : Type 0
Meant = Result (Parts (Unit {0})) AsmFault

abbrev meant : List ℕ → Meant
meant text = meaning text

abbrev fault : ℕ → Code → Meant
fault line code = Err (record { line = line; code = code })

abbrev edge : Dep → Dependent → StartEdge
edge kind dependent = record { kind = kind; dependent = dependent }

-- a class that begins, operates and commits
abbrev plain : List ℕ → Class (Unit {0})
plain name = record {
  name = name;
  starts = record { begin = true; spawned = false; split = false };
  may = 96;
  scope = Others;
  policy = Refuse;
  at_commit = Keeps;
  extent = Whole;
  spawn_edges = [];
  split_edges = [];
}

-- a model of one class, and one with an object x and the class a
abbrev only : Class (Unit {0}) → Parts (Unit {0})
only class = record { objects = []; classes = class ∷ [] }

abbrev with_one : Kind → Parts (Unit {0})
with_one kind = record { objects = (record { name = codes "x"; kind = kind }) ∷ []; classes = plain (codes "a") ∷ [] }

-- a class that is never closed
unclosed : meant (text_of (codes "class a" ∷ codes "starts begin" ∷ [])) ≡ fault 2 MissingEnd
unfolding meaning_after extended not_ascii bad_word bad_name duplicate_name wrong_place bad_number too_many missing_end missing_part begin_kind_at_start heir_without_spawn bad_policy_kind
unclosed = refl

-- a class without parts
parsed_nothing : meant (text_of (codes "class a" ∷ codes "end" ∷ [])) ≡ fault 2 MissingPart
unfolding meaning_after extended not_ascii bad_word bad_name duplicate_name wrong_place bad_number too_many missing_end missing_part begin_kind_at_start heir_without_spawn bad_policy_kind
parsed_nothing = refl

-- a text without a byte has one line
without_a_byte : meant ([]) ≡ fault 1 MissingPart
unfolding meaning_after extended not_ascii bad_word bad_name duplicate_name wrong_place bad_number too_many missing_end missing_part begin_kind_at_start heir_without_spawn bad_policy_kind
without_a_byte = refl

-- and so has one of a line feed
one_line_feed : meant (10 ∷ []) ≡ fault 1 MissingPart
unfolding meaning_after extended not_ascii bad_word bad_name duplicate_name wrong_place bad_number too_many missing_end missing_part begin_kind_at_start heir_without_spawn bad_policy_kind
one_line_feed = refl

-- a blank line can be the last: it has the fault of the whole text
blank_last : meant ((codes "object x set" ++ 10 ∷ 10 ∷ [])) ≡ fault 2 MissingPart
unfolding meaning_after extended not_ascii bad_word bad_name duplicate_name wrong_place bad_number too_many missing_end missing_part begin_kind_at_start heir_without_spawn bad_policy_kind
blank_last = refl

-- so can a comment
comment_last : meant ((codes "class a" ++ 10 ∷ codes "# b")) ≡ fault 2 MissingEnd
unfolding meaning_after extended not_ascii bad_word bad_name duplicate_name wrong_place bad_number too_many missing_end missing_part begin_kind_at_start heir_without_spawn bad_policy_kind
comment_last = refl

-- an open class on the last line counts before the kind of an edge
begin_edge_last : meant (text_of (codes "class a" ∷ codes "spawn starter BD started" ∷ [])) ≡ fault 2 MissingEnd
unfolding meaning_after extended not_ascii bad_word bad_name duplicate_name wrong_place bad_number too_many missing_end missing_part begin_kind_at_start heir_without_spawn bad_policy_kind
begin_edge_last = refl

-- and if a line follows, the kind counts
begin_edge : meant (text_of (codes "class a" ∷ codes "spawn starter BD started" ∷ codes "end" ∷ [])) ≡ fault 2 BeginKindAtStart
unfolding meaning_after extended not_ascii bad_word bad_name duplicate_name wrong_place bad_number too_many missing_end missing_part begin_kind_at_start heir_without_spawn bad_policy_kind
begin_edge = refl

-- a class, and no object; its kinds are the bits 32 and 64
small : meant (text_of (codes "class a" ∷ codes "starts begin" ∷ codes "may operate commit" ∷ codes "scope others" ∷ codes "policy refuse" ∷ codes "commit keeps" ∷ codes "delegation whole" ∷ codes "end" ∷ [])) ≡ Ok (only (plain (codes "a")))
unfolding meaning_after extended not_ascii bad_word bad_name duplicate_name wrong_place bad_number too_many missing_end missing_part begin_kind_at_start heir_without_spawn bad_policy_kind
small = refl

-- a last line without a line feed is a line
unended : meant ((text_of (codes "class a" ∷ codes "starts begin" ∷ codes "may operate commit" ∷ codes "scope others" ∷ codes "policy refuse" ∷ codes "commit keeps" ∷ codes "delegation whole" ∷ codes "end" ∷ []) ++ codes "object x set")) ≡ Ok (with_one Elements)
unfolding meaning_after extended not_ascii bad_word bad_name duplicate_name wrong_place bad_number too_many missing_end missing_part begin_kind_at_start heir_without_spawn bad_policy_kind
unended = refl

-- lines of a class in any order, with blanks and comments
any_order : meant (text_of (codes "  class a# b" ∷ [] ∷ codes "commit keeps" ∷ codes "policy   refuse" ∷ codes "#" ∷ codes "delegation whole" ∷ codes "scope others # c" ∷ codes "may commit operate commit" ∷ codes "starts begin" ∷ codes "end" ∷ [])) ≡ Ok (only (plain (codes "a")))
unfolding meaning_after extended not_ascii bad_word bad_name duplicate_name wrong_place bad_number too_many missing_end missing_part begin_kind_at_start heir_without_spawn bad_policy_kind
any_order = refl

-- no word is reserved, and an object and a class may share a name
reserved : meant (text_of (codes "object end set" ∷ codes "class end" ∷ codes "starts begin" ∷ codes "may operate commit" ∷ codes "scope others" ∷ codes "policy refuse" ∷ codes "commit keeps" ∷ codes "delegation whole" ∷ codes "end" ∷ [])) ≡ Ok (record { objects = (record { name = codes "end"; kind = Elements }) ∷ []; classes = plain (codes "end") ∷ [] })
unfolding meaning_after extended not_ascii bad_word bad_name duplicate_name wrong_place bad_number too_many missing_end missing_part begin_kind_at_start heir_without_spawn bad_policy_kind
reserved = refl

-- starts and may name nothing: an empty list
lists_of_none : meant (text_of (codes "class a" ∷ codes "starts" ∷ codes "may" ∷ codes "scope others" ∷ codes "policy refuse" ∷ codes "commit keeps" ∷ codes "delegation whole" ∷ codes "end" ∷ [])) ≡ Ok (only (record (plain (codes "a")) { starts = record { begin = false; spawned = false; split = false }; may = 0 }))
unfolding meaning_after extended not_ascii bad_word bad_name duplicate_name wrong_place bad_number too_many missing_end missing_part begin_kind_at_start heir_without_spawn bad_policy_kind
lists_of_none = refl

-- a permit is the bit 256, wherever its word is
permits : meant (text_of (codes "class a" ∷ codes "starts begin" ∷ codes "may permit operate commit" ∷ codes "scope others" ∷ codes "policy refuse" ∷ codes "commit keeps" ∷ codes "delegation whole" ∷ codes "end" ∷ [])) ≡ Ok (only (record (plain (codes "a")) { may = 352 }))
unfolding meaning_after extended not_ascii bad_word bad_name duplicate_name wrong_place bad_number too_many missing_end missing_part begin_kind_at_start heir_without_spawn bad_policy_kind
permits = refl

-- and is written last
permits_last : may_words 352 ≡ codes "operate" ∷ codes "commit" ∷ codes "permit" ∷ []
permits_last = refl

-- edges are sorted by kind, the starter first, each once
edges_once : meant (text_of (codes "class a" ∷ codes "split started WD starter" ∷ codes "split starter WD started" ∷ codes "split starter CD started" ∷ codes "split started WD starter" ∷ codes "starts begin" ∷ codes "may operate commit" ∷ codes "scope others" ∷ codes "policy refuse" ∷ codes "commit keeps" ∷ codes "delegation whole" ∷ codes "end" ∷ [])) ≡ Ok (only (record (plain (codes "a")) { split_edges = edge Cd Starter ∷ edge Wd Starter ∷ edge Wd Started ∷ [] }))
unfolding meaning_after extended not_ascii bad_word bad_name duplicate_name wrong_place bad_number too_many missing_end missing_part begin_kind_at_start heir_without_spawn bad_policy_kind
edges_once = refl

-- kinds of a policy are a set: AD and TD are the bits 4 and 16
depends : meant (text_of (codes "class a" ∷ codes "starts begin" ∷ codes "may operate commit" ∷ codes "scope others" ∷ codes "policy depend TD AD TD" ∷ codes "commit keeps" ∷ codes "delegation whole" ∷ codes "end" ∷ [])) ≡ Ok (only (record (plain (codes "a")) { policy = Depend 20 }))
unfolding meaning_after extended not_ascii bad_word bad_name duplicate_name wrong_place bad_number too_many missing_end missing_part begin_kind_at_start heir_without_spawn bad_policy_kind
depends = refl

-- the least first value, with leading zeros
least : meant (text_of (codes "object x register -0002147483648" ∷ codes "class a" ∷ codes "starts begin" ∷ codes "may operate commit" ∷ codes "scope others" ∷ codes "policy refuse" ∷ codes "commit keeps" ∷ codes "delegation whole" ∷ codes "end" ∷ [])) ≡ Ok (with_one (Register (neg_ℤ (pos 2147483648))))
unfolding meaning_after extended not_ascii bad_word bad_name duplicate_name wrong_place bad_number too_many missing_end missing_part begin_kind_at_start heir_without_spawn bad_policy_kind
least = refl

-- 0 may have a minus
minus_nothing : meant (text_of (codes "object x counter -0" ∷ codes "class a" ∷ codes "starts begin" ∷ codes "may operate commit" ∷ codes "scope others" ∷ codes "policy refuse" ∷ codes "commit keeps" ∷ codes "delegation whole" ∷ codes "end" ∷ [])) ≡ Ok (with_one (Counter (pos 0)))
unfolding meaning_after extended not_ascii bad_word bad_name duplicate_name wrong_place bad_number too_many missing_end missing_part begin_kind_at_start heir_without_spawn bad_policy_kind
minus_nothing = refl

-- one more than the greatest value
too_great : meant (text_of (codes "object x counter 2147483648" ∷ [])) ≡ fault 1 BadNumber
unfolding meaning_after extended not_ascii bad_word bad_name duplicate_name wrong_place bad_number too_many missing_end missing_part begin_kind_at_start heir_without_spawn bad_policy_kind
too_great = refl

-- a plus is never part of a number
plus : meant (text_of (codes "object x counter +5" ∷ [])) ≡ fault 1 BadNumber
unfolding meaning_after extended not_ascii bad_word bad_name duplicate_name wrong_place bad_number too_many missing_end missing_part begin_kind_at_start heir_without_spawn bad_policy_kind
plus = refl

-- a minus alone is not a number
minus_alone : meant (text_of (codes "object x counter -" ∷ [])) ≡ fault 1 BadNumber
unfolding meaning_after extended not_ascii bad_word bad_name duplicate_name wrong_place bad_number too_many missing_end missing_part begin_kind_at_start heir_without_spawn bad_policy_kind
minus_alone = refl

-- bytes past the tilde count in comments too
delete : meant ((codes "# " ++ 127 ∷ [])) ≡ fault 1 NotAscii
unfolding meaning_after extended not_ascii bad_word bad_name duplicate_name wrong_place bad_number too_many missing_end missing_part begin_kind_at_start heir_without_spawn bad_policy_kind
delete = refl

-- a carriage return is such a byte
return : meant ((codes "class a" ++ 13 ∷ 10 ∷ [])) ≡ fault 1 NotAscii
unfolding meaning_after extended not_ascii bad_word bad_name duplicate_name wrong_place bad_number too_many missing_end missing_part begin_kind_at_start heir_without_spawn bad_policy_kind
return = refl

-- a tab separates words
tab : meant ((codes "object" ++ 9 ∷ codes "x" ++ 9 ∷ codes "list")) ≡ fault 1 BadWord
unfolding meaning_after extended not_ascii bad_word bad_name duplicate_name wrong_place bad_number too_many missing_end missing_part begin_kind_at_start heir_without_spawn bad_policy_kind
tab = refl

-- a set has no first value
set_with_value : meant (text_of (codes "object x set 0" ∷ [])) ≡ fault 1 BadWord
unfolding meaning_after extended not_ascii bad_word bad_name duplicate_name wrong_place bad_number too_many missing_end missing_part begin_kind_at_start heir_without_spawn bad_policy_kind
set_with_value = refl

-- an unknown kind is not a word
unknown_kind : meant (text_of (codes "class a" ∷ codes "policy depend XX" ∷ codes "end" ∷ [])) ≡ fault 2 BadWord
unfolding meaning_after extended not_ascii bad_word bad_name duplicate_name wrong_place bad_number too_many missing_end missing_part begin_kind_at_start heir_without_spawn bad_policy_kind
unknown_kind = refl

-- a policy `depend` without kinds fits the form, and is a bad policy
no_kind : meant (text_of (codes "class a" ∷ codes "policy depend" ∷ codes "end" ∷ [])) ≡ fault 2 BadPolicyKind
unfolding meaning_after extended not_ascii bad_word bad_name duplicate_name wrong_place bad_number too_many missing_end missing_part begin_kind_at_start heir_without_spawn bad_policy_kind
no_kind = refl

-- a policy may not form edges of a kind that an earlier end can break
strong_kind : meant (text_of (codes "class a" ∷ codes "policy depend CD SCD" ∷ codes "end" ∷ [])) ≡ fault 2 BadPolicyKind
unfolding meaning_after extended not_ascii bad_word bad_name duplicate_name wrong_place bad_number too_many missing_end missing_part begin_kind_at_start heir_without_spawn bad_policy_kind
strong_kind = refl

-- a second policy is in the wrong place, even if it is bad
second_bad_policy : meant (text_of (codes "class a" ∷ codes "policy refuse" ∷ codes "policy depend SCD" ∷ codes "end" ∷ [])) ≡ fault 3 WrongPlace
unfolding meaning_after extended not_ascii bad_word bad_name duplicate_name wrong_place bad_number too_many missing_end missing_part begin_kind_at_start heir_without_spawn bad_policy_kind
second_bad_policy = refl

-- an invalid name counts before its place
bad_name_first : meant (text_of (codes "class a" ∷ codes "object 1x set" ∷ codes "end" ∷ [])) ≡ fault 2 BadName
unfolding meaning_after extended not_ascii bad_word bad_name duplicate_name wrong_place bad_number too_many missing_end missing_part begin_kind_at_start heir_without_spawn bad_policy_kind
bad_name_first = refl

-- a name of 33 bytes
long_name : meant (text_of (codes "object nnnnnnnnnnnnnnnnnnnnnnnnnnnnnnnnn set" ∷ [])) ≡ fault 1 BadName
unfolding meaning_after extended not_ascii bad_word bad_name duplicate_name wrong_place bad_number too_many missing_end missing_part begin_kind_at_start heir_without_spawn bad_policy_kind
long_name = refl

-- a name that is already taken, also by the open class, counts before the place
duplicate_inside : meant (text_of (codes "class a" ∷ codes "class a" ∷ [])) ≡ fault 2 DuplicateName
unfolding meaning_after extended not_ascii bad_word bad_name duplicate_name wrong_place bad_number too_many missing_end missing_part begin_kind_at_start heir_without_spawn bad_policy_kind
duplicate_inside = refl

-- a class inside a class
class_inside : meant (text_of (codes "class a" ∷ codes "class b" ∷ [])) ≡ fault 2 WrongPlace
unfolding meaning_after extended not_ascii bad_word bad_name duplicate_name wrong_place bad_number too_many missing_end missing_part begin_kind_at_start heir_without_spawn bad_policy_kind
class_inside = refl

-- a bad number inside a class: the place counts first
number_inside : meant (text_of (codes "class a" ∷ codes "object x register y" ∷ codes "end" ∷ [])) ≡ fault 2 WrongPlace
unfolding meaning_after extended not_ascii bad_word bad_name duplicate_name wrong_place bad_number too_many missing_end missing_part begin_kind_at_start heir_without_spawn bad_policy_kind
number_inside = refl

-- an end without a class
end_outside : meant (text_of (codes "end" ∷ [])) ≡ fault 1 WrongPlace
unfolding meaning_after extended not_ascii bad_word bad_name duplicate_name wrong_place bad_number too_many missing_end missing_part begin_kind_at_start heir_without_spawn bad_policy_kind
end_outside = refl

-- an end of a class that lacks a part counts before its heir
part_before_heir : meant (text_of (codes "class a" ∷ codes "starts begin" ∷ codes "commit toparent" ∷ codes "end" ∷ [])) ≡ fault 4 MissingPart
unfolding meaning_after extended not_ascii bad_word bad_name duplicate_name wrong_place bad_number too_many missing_end missing_part begin_kind_at_start heir_without_spawn bad_policy_kind
part_before_heir = refl

-- a class that starts by begin has no parent to inherit
heirless : meant (text_of (codes "class a" ∷ codes "starts begin" ∷ codes "may operate commit" ∷ codes "scope others" ∷ codes "policy refuse" ∷ codes "commit toparent" ∷ codes "delegation whole" ∷ codes "end" ∷ [])) ≡ fault 8 HeirWithoutSpawn
unfolding meaning_after extended not_ascii bad_word bad_name duplicate_name wrong_place bad_number too_many missing_end missing_part begin_kind_at_start heir_without_spawn bad_policy_kind
heirless = refl

-- the first faulty line counts, even if a later one has a lower code
first_line : meant (text_of (codes "object x counter z" ∷ codes "bogus" ∷ [])) ≡ fault 1 BadNumber
unfolding meaning_after extended not_ascii bad_word bad_name duplicate_name wrong_place bad_number too_many missing_end missing_part begin_kind_at_start heir_without_spawn bad_policy_kind
first_line = refl

-- the models of flat and of nested transactions
abbrev objects : List (Object (Unit {0}))
objects =
    record { name = codes "x"; kind = Register (pos 0) } ∷ record { name = codes "n"; kind = Counter (pos 0) }
    ∷ record { name = codes "m"; kind = Counter (pos 0) } ∷ record { name = codes "s"; kind = Elements } ∷ []

abbrev atomic : Parts (Unit {0})
atomic = record { objects = objects; classes = record (plain (codes "flat")) { may = 224 } ∷ [] }

abbrev nested : Parts (Unit {0})
nested = record {
  objects = objects;
  classes =
      record (plain (codes "top")) { may = 225; scope = NonAncestors }
      ∷ record (plain (codes "sub")) {
        starts = record { begin = false; spawned = true; split = false };
        may = 225;
        scope = NonAncestors;
        at_commit = ToParent;
        spawn_edges = edge Cd Starter ∷ edge Wd Started ∷ [];
      }
      ∷ [];
}

atomic_text : canonical atomic ≡ text_of (codes "object x register 0" ∷ codes "object n counter 0" ∷ codes "object m counter 0" ∷ codes "object s set" ∷ codes "class flat" ∷ codes "starts begin" ∷ codes "may operate commit abort" ∷ codes "scope others" ∷ codes "policy refuse" ∷ codes "commit keeps" ∷ codes "delegation whole" ∷ codes "end" ∷ [])
unfolding canonical digits
atomic_text = refl

atomic_again : meant (canonical atomic) ≡ Ok atomic
unfolding meaning_after extended not_ascii bad_word bad_name duplicate_name wrong_place bad_number too_many missing_end missing_part begin_kind_at_start heir_without_spawn bad_policy_kind canonical digits
atomic_again = refl

nested_text : canonical nested ≡ text_of (codes "object x register 0" ∷ codes "object n counter 0" ∷ codes "object m counter 0" ∷ codes "object s set" ∷ codes "class top" ∷ codes "starts begin" ∷ codes "may spawn operate commit abort" ∷ codes "scope nonancestors" ∷ codes "policy refuse" ∷ codes "commit keeps" ∷ codes "delegation whole" ∷ codes "end" ∷ codes "class sub" ∷ codes "starts spawned" ∷ codes "may spawn operate commit abort" ∷ codes "scope nonancestors" ∷ codes "policy refuse" ∷ codes "commit toparent" ∷ codes "delegation whole" ∷ codes "spawn starter CD started" ∷ codes "spawn started WD starter" ∷ codes "end" ∷ [])
unfolding canonical digits
nested_text = refl

nested_again : meant (canonical nested) ≡ Ok nested
unfolding meaning_after extended not_ascii bad_word bad_name duplicate_name wrong_place bad_number too_many missing_end missing_part begin_kind_at_start heir_without_spawn bad_policy_kind canonical digits
nested_again = refl

-- the greatest numbers of objects and of classes
abbrev many : Draft (Unit {0})
many = record {
  objects = replicate MOST_OBJECTS (record { name = codes "o"; kind = Elements });
  classes = replicate MOST_CLASSES (plain (codes "c"));
  current = None;
}

one_object_more : code_at many false (codes "object x set") ≡ Some TooMany
unfolding meaning_after extended not_ascii bad_word bad_name duplicate_name wrong_place bad_number too_many missing_end missing_part begin_kind_at_start heir_without_spawn bad_policy_kind
one_object_more = refl

one_object_less : code_at (record many { objects = replicate 255 (record { name = codes "o"; kind = Elements }) }) false (codes "object x set") ≡ None
unfolding meaning_after extended not_ascii bad_word bad_name duplicate_name wrong_place bad_number too_many missing_end missing_part begin_kind_at_start heir_without_spawn bad_policy_kind
one_object_less = refl

-- an invalid number counts before the number of objects, which counts before an open class at the end
bad_object_more : code_at many false (codes "object x register y") ≡ Some BadNumber
unfolding meaning_after extended not_ascii bad_word bad_name duplicate_name wrong_place bad_number too_many missing_end missing_part begin_kind_at_start heir_without_spawn bad_policy_kind
bad_object_more = refl

one_class_more : code_at many true (codes "class x") ≡ Some TooMany
unfolding meaning_after extended not_ascii bad_word bad_name duplicate_name wrong_place bad_number too_many missing_end missing_part begin_kind_at_start heir_without_spawn bad_policy_kind
one_class_more = refl

-- ---- where a text is wrong

-- the place of the word at fault, what is expected there, the earlier line and the open class
abbrev Reported : Type 0
Reported = Option (Option ℕ × (Expected × (Option ℕ × Option ClassAt)))

abbrev reported_of : Option Diagnostic → Reported
reported_of None = None
reported_of (Some d) = Some (d.place, (d.expected, (d.earlier, d.class)))

abbrev reported : List (List ℕ) → Reported
reported lines = reported_of (diagnosed (Unit {0}) (text_of lines))

-- the kind of an object, a surplus word, and a missing word
no_object_kind : reported (codes "object x list" ∷ []) ≡ Some (Some 2, (want.ObjectKind, (None, None)))
unfolding meaning_after extended not_ascii bad_word bad_name duplicate_name wrong_place bad_number too_many missing_end missing_part begin_kind_at_start heir_without_spawn bad_policy_kind
no_object_kind = refl

too_many_words : reported (codes "object x set 1" ∷ []) ≡ Some (Some 3, (want.Object, (None, None)))
unfolding meaning_after extended not_ascii bad_word bad_name duplicate_name wrong_place bad_number too_many missing_end missing_part begin_kind_at_start heir_without_spawn bad_policy_kind
too_many_words = refl

lacks_a_word : reported (codes "object x register" ∷ []) ≡ Some (None, (want.Object, (None, None)))
unfolding meaning_after extended not_ascii bad_word bad_name duplicate_name wrong_place bad_number too_many missing_end missing_part begin_kind_at_start heir_without_spawn bad_policy_kind
lacks_a_word = refl

-- the first line that declares the name
named_before : reported (codes "object y set" ∷ codes "# x" ∷ codes "object x set" ∷ codes "object x counter 0" ∷ []) ≡ Some (Some 1, (want.NewObject, (Some 3, None)))
unfolding meaning_after extended not_ascii bad_word bad_name duplicate_name wrong_place bad_number too_many missing_end missing_part begin_kind_at_start heir_without_spawn bad_policy_kind
named_before = refl

-- the line of the part, of the open class
parsed_before : reported (codes "class a" ∷ codes "may" ∷ codes "starts begin" ∷ codes "starts" ∷ [])
    ≡ Some (Some 0, (want.Once, (Some 3, Some (record { name = codes "a"; line = 1; parts = record no_lines { starts = Some 3; may = Some 2 } }))))
unfolding meaning_after extended not_ascii bad_word bad_name duplicate_name wrong_place bad_number too_many missing_end missing_part begin_kind_at_start heir_without_spawn bad_policy_kind
parsed_before = refl

-- a class that ends without a part, after a class that is closed
lacks_a_part : reported (codes "class a" ∷ codes "starts begin" ∷ codes "may operate commit" ∷ codes "scope others" ∷ codes "policy refuse" ∷ codes "commit keeps" ∷ codes "delegation whole" ∷ codes "end" ∷ codes "class b" ∷ codes "scope others" ∷ codes "end" ∷ [])
    ≡ Some (Some 0, (want.AllParts, (None, Some (record { name = codes "b"; line = 9; parts = record no_lines { scope = Some 10 } }))))
unfolding meaning_after extended not_ascii bad_word bad_name duplicate_name wrong_place bad_number too_many missing_end missing_part begin_kind_at_start heir_without_spawn bad_policy_kind
lacks_a_part = refl

-- a class that the last line begins
begun_last : reported (codes "object x set" ∷ codes "class a" ∷ []) ≡ Some (Some 0, (want.ClassEnd, (None, Some (begun (codes "a") 2))))
unfolding meaning_after extended not_ascii bad_word bad_name duplicate_name wrong_place bad_number too_many missing_end missing_part begin_kind_at_start heir_without_spawn bad_policy_kind
begun_last = refl

-- no text without a fault has a diagnostic
none_reported : reported (codes "class a" ∷ codes "starts begin" ∷ codes "may operate commit" ∷ codes "scope others" ∷ codes "policy refuse" ∷ codes "commit keeps" ∷ codes "delegation whole" ∷ codes "end" ∷ []) ≡ None
unfolding meaning_after extended not_ascii bad_word bad_name duplicate_name wrong_place bad_number too_many missing_end missing_part begin_kind_at_start heir_without_spawn bad_policy_kind
none_reported = refl
