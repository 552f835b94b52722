-- The canonical text of a model parses to the model: its lines are read one after another.
use Rattle.std.proofs.Common.{◌≡◌, ℕ, ◌+◌, ◌≤◌, ◌<◌, Bool, true, false, not, ◌&&◌, ◌||◌, ◌==◌, nat_lt, List, [], ◌∷◌, ◌++◌, map, flat_map, codes, drop, suc, length, Option, Some, None, Result, Ok, is_none, refl, sym, ap, ◌∙◌, true≢false, arith, length-append}
use Rattle.std.specs.Fmt.{signed_decimal}
use Rattle.std.specs.List.{All, AllByRecursion, list_all, list_any}
use Rattle.std.specs.Option.{option_or}
use Rattle.std.proofs.Math.Bool.{and-false}
use Rattle.std.proofs.lemmas.Bool.{and_from, and_parts, or_from, or_parts, lt-leb, ltb-false, ne_eqb, not-false}
use Rattle.std.proofs.lemmas.List.{append-nil, append_assoc, map-append}
use Rattle.std.proofs.lemmas.List.Folds.{list_all-append}
use Rattle.acta_table.specs.declared.dep.Dep.{Dep}
use Rattle.acta_table.specs.declared.dep.Dep.TheVariants.{Cd, Scd, Ad, Wd, Td, Ed, Cmd, Bd, Sd, Bcd, Bad, Wcd}
use Rattle.acta_table.specs.declared.model.AtCommit.{AtCommit}
use Rattle.acta_table.specs.declared.model.AtCommit.TheVariants.{Keeps, ToParent}
use Rattle.acta_table.specs.declared.model.Class.{Class}
use Rattle.acta_table.specs.declared.model.Extent.{Extent}
use Rattle.acta_table.specs.declared.model.Extent.TheVariants.{Whole, Any}
use Rattle.acta_table.specs.declared.model.Kind.{Kind}
use Rattle.acta_table.specs.declared.model.Kind.TheVariants as kind
use Rattle.acta_table.specs.declared.model.ModelFault.{ModelFault}
use Rattle.acta_table.specs.declared.model.ModelFault.TheVariants as fault
use Rattle.acta_table.specs.declared.model.Object.{Object}
use Rattle.acta_table.specs.declared.model.Parts.{Parts}
use Rattle.acta_table.specs.declared.model.Scope.{Scope}
use Rattle.acta_table.specs.declared.model.Scope.TheVariants.{Others, NonAncestors}
use Rattle.acta_table.specs.declared.policy.Policy.{Policy}
use Rattle.acta_table.specs.declared.policy.Policy.TheVariants.{Refuse, Depend}
use Rattle.acta_table.specs.declared.start_edges.Dependent.{Dependent}
use Rattle.acta_table.specs.declared.start_edges.Dependent.TheVariants.{Starter, Started}
use Rattle.acta_table.specs.declared.start_edges.StartEdge.{StartEdge}
use Rattle.acta_table.specs.Dependencies.{all_kinds, has_dep, is_begin_kind, word_of}
use Rattle.acta_table.specs.Faults.{fault_if, has_begin_edge, has_begin_kind, has_twice, is_name, lacks_parents}
use Rattle.acta_table.specs.Kinds.{has_kind}
use Rattle.acta_table.specs.Policies.{is_bad_policy}
use Rattle.acta_table.specs.declared.limits.TheConstants.{MOST_CLASSES, MOST_OBJECTS}
use Rattle.acta_words.specs.Text.{is_word_among, line_of, lines_of, text_of}
use Rattle.acta_words.proofs.TextAgain.{IsOneLine, lines_again, words_again}
use Rattle.acta_lang.specs.declared.fault.AsmFault.{AsmFault}
use Rattle.acta_lang.specs.declared.form.Form.{Form}
use Rattle.acta_lang.specs.declared.form.Form.TheVariants as form
use Rattle.acta_lang.specs.Canonical.{canonical, class_words, edge_words, may_words, model_words, object_words, policy_words, starts_words}
use Rattle.acta_lang.specs.Drafts.{Draft, OpenClass, closed, extended, nothing_yet, opened}
use Rattle.acta_lang.specs.Faults.{bad_word, bad_name, duplicate_name, wrong_place, bad_number, too_many, missing_end, missing_part, begin_kind_at_start, heir_without_spawn, bad_policy_kind, lowest_of}
use Rattle.acta_table.specs.Typed.{AreOfModel, HasFirst, HasSets}
use Rattle.acta_lang.specs.Forms.{form_of}
use Rattle.acta_lang.specs.Meaning.{judged, meaning, meaning_after}
use Rattle.acta_lang.specs.Words.{commit_word, extent_word, may_kinds, may_word, scope_word}
use Rattle.acta_lang.proofs.EdgesAgain.{once_again}
use Rattle.acta_lang.proofs.FormsAgain.{commit_again, extent_again, first_again, integer_again, may_again, policy_again, scope_again, spawn_again, split_again, starts_again}
use Rattle.acta_lang.proofs.Held.{one_more}
use Rattle.acta_lang.proofs.NoCodes.{clear}
use Rattle.acta_lang.proofs.Sound.{new_from_apart}
use Rattle.acta_lang.proofs.Tidy.{are_words, is_tidy_word, line_ascii, one_line, tidy_kept, tidy_name, tidy_number}
use Rattle.acta_lang.proofs.Turns.{after_is_from, meaning_from}

-- one line without a code: the lines after it are read
step : {A : Type 0} (n : ℕ) (d : Draft A) (words : List (List ℕ)) (parsed : Form) (lines : List (List ℕ)) (is_last : Bool) → (length lines == 0) ≡ is_last → list_all is_tidy_word words ≡ true → form_of words ≡ parsed
    → lowest_of d (extended d words parsed) is_last (line_of words) words parsed ≡ None
    → meaning_from n d (line_of words ∷ lines) ≡ meaning_from (n + 1) (extended d words parsed) lines
unfolding meaning_from
step n d words parsed lines is_last last tidy is none =
    let same = words_again words (are_words words tidy) in
    (λ i. judged n (lowest_of d (extended d (same i) (form_of (same i))) (last i) (line_of words) (same i) (form_of (same i))) (meaning_from (n + 1) (extended d (same i) (form_of (same i))) lines))
    ∙ (λ i. judged n (lowest_of d (extended d words (is i)) is_last (line_of words) words (is i)) (meaning_from (n + 1) (extended d words (is i)) lines))
    ∙ ap (λ o. judged n o (meaning_from (n + 1) (extended d words parsed) lines)) none

some_after : {X : Type 0} (xs : List X) (y : X) (ys : List X) → (length (xs ++ y ∷ ys) == 0) ≡ false
some_after xs y ys = ne_eqb (length (xs ++ y ∷ ys)) 0 (λ e. omega (arith, e, length-append xs (y ∷ ys)))

more_after : {X : Type 0} (xs ys : List X) → (length ys == 0) ≡ false → (length (xs ++ ys) == 0) ≡ false
more_after [] ys more = more
more_after (x ∷ xs) ys more = some_after [] x (xs ++ ys)

among_none : {A : Type 0} (cs : List (Class A)) (name : List ℕ) → is_word_among (map (λ c. c.name) cs) name ≡ false → is_word_among (map (λ c. c.name) cs ++ []) name ≡ false
among_none {A = A} cs name new = ap (λ names. is_word_among names name) (append-nil (map (λ (c : Class A). c.name) cs)) ∙ new

-- the declarations of objects and classes, and the open class
abbrev at : {A : Type 0} → List (Object A) → List (Class A) → Option OpenClass → Draft A
at os cs current = record { objects = os; classes = cs; current = current }

-- the line of an object
object_tidy : (A : Type 0) (name : List ℕ) (k : Kind) → HasFirst k → is_name name ≡ true → list_all is_tidy_word (object_words {A = A} (record { name = name; kind = k })) ≡ true
object_tidy A name (kind.Register first) fits named = and_from (is_tidy_word name) _ (tidy_name name named) (and_from (is_tidy_word (signed_decimal first)) true (tidy_number first fits) refl)
object_tidy A name (kind.Counter first) fits named = and_from (is_tidy_word name) _ (tidy_name name named) (and_from (is_tidy_word (signed_decimal first)) true (tidy_number first fits) refl)
object_tidy A name kind.Elements fits named = and_from (is_tidy_word name) true (tidy_name name named) refl

object_line : {A : Type 0} (n : ℕ) (os : List (Object A)) (name : List ℕ) (k : Kind) (lines : List (List ℕ)) → (length lines == 0) ≡ false → HasFirst k → is_name name ≡ true → is_word_among (map (λ o. o.name) os) name ≡ false → length os < MOST_OBJECTS
    → meaning_from n (at os [] None) (line_of (object_words {A = A} (record { name = name; kind = k })) ∷ lines) ≡ meaning_from (n + 1) (at (os ++ (record { name = name; kind = k }) ∷ []) [] None) lines
unfolding extended bad_word bad_name duplicate_name wrong_place bad_number too_many missing_end missing_part begin_kind_at_start heir_without_spawn bad_policy_kind
object_line {A = A} n os name (kind.Register first) lines more fits named new room =
    let words = object_words {A = A} (record { name = name; kind = kind.Register first }) in
    let tidy = object_tidy A name (kind.Register first) fits named in
    let d : Draft A = at os [] None in
    step n d words form.Register lines false more tidy refl
    (clear d (extended d words form.Register) false (line_of words) words form.Register (line_ascii words tidy) refl (ap not named) (or_from _ _ new refl) refl (ap is_none (integer_again first fits)) (or_from _ _ (lt-leb MOST_OBJECTS (length os) room) refl) refl refl refl refl refl)
    ∙ ap (λ z. meaning_from (n + 1) (at (os ++ (record { name = name; kind = kind.Register z }) ∷ []) [] None) lines) (first_again first fits)
object_line {A = A} n os name (kind.Counter first) lines more fits named new room =
    let words = object_words {A = A} (record { name = name; kind = kind.Counter first }) in
    let tidy = object_tidy A name (kind.Counter first) fits named in
    let d : Draft A = at os [] None in
    step n d words form.Counter lines false more tidy refl
    (clear d (extended d words form.Counter) false (line_of words) words form.Counter (line_ascii words tidy) refl (ap not named) (or_from _ _ new refl) refl (ap is_none (integer_again first fits)) (or_from _ _ (lt-leb MOST_OBJECTS (length os) room) refl) refl refl refl refl refl)
    ∙ ap (λ z. meaning_from (n + 1) (at (os ++ (record { name = name; kind = kind.Counter z }) ∷ []) [] None) lines) (first_again first fits)
object_line {A = A} n os name kind.Elements lines more fits named new room =
    let words = object_words {A = A} (record { name = name; kind = kind.Elements }) in
    let tidy = object_tidy A name kind.Elements fits named in
    let d : Draft A = at os [] None in
    step n d words form.Elements lines false more tidy refl
    (clear d (extended d words form.Elements) false (line_of words) words form.Elements (line_ascii words tidy) refl (ap not named) (or_from _ _ new refl) refl refl (or_from _ _ (lt-leb MOST_OBJECTS (length os) room) refl) refl refl refl refl refl)

-- the lines of all objects, with a line after them
objects_again : {A : Type 0} (n : ℕ) (os todo : List (Object A)) (next : List ℕ) (rest : List (List ℕ)) (r : Result (Parts A) AsmFault) → AllByRecursion (λ o. HasFirst o.kind) todo → list_all is_name (map (λ o. o.name) todo) ≡ true
    → has_twice (map (λ o. o.name) (os ++ todo)) ≡ false → length (os ++ todo) ≤ MOST_OBJECTS → ((k : ℕ) → meaning_from k (at (os ++ todo) [] None) (next ∷ rest) ≡ r)
    → meaning_from n (at os [] None) (map line_of (map object_words todo) ++ next ∷ rest) ≡ r
objects_again {A = A} n os [] next rest r fits named apart few then = ap (λ (l : List (Object A)). meaning_from n (at l [] None) (next ∷ rest)) (sym (append-nil os)) ∙ then n
objects_again {A = A} n os (o ∷ todo) next rest r fits named apart few then =
    let names = and_parts (is_name o.name) (list_all is_name (map (λ (o : Object A). o.name) todo)) named in
    let new = new_from_apart (map (λ (o : Object A). o.name) os) o.name (map (λ (o : Object A). o.name) todo) (ap has_twice (sym (map-append (λ (o : Object A). o.name) os (o ∷ todo))) ∙ apart) in
    let together : (os ++ o ∷ []) ++ todo ≡ os ++ (o ∷ todo) = append_assoc os (o ∷ []) todo in
    object_line n os o.name o.kind (map line_of (map object_words todo) ++ next ∷ rest) (some_after (map line_of (map object_words todo)) next rest) fits.0 names.0 new (omega (arith, few, length-append os (o ∷ todo)))
    ∙ objects_again (n + 1) (os ++ o ∷ []) todo next rest r fits.1 names.1 (ap (λ (l : List (Object A)). has_twice (map (λ o. o.name) l)) together ∙ apart) (omega (arith, few, ap length together))
    (λ k. ap (λ (l : List (Object A)). meaning_from k (at l [] None) (next ∷ rest)) together ∙ then k)

-- a checked class
pub record IsWhole {A : Type 0} (c : Class A) : Type 0 where
  pub named : is_name c.name ≡ true
  pub sets : HasSets c
  pub policy : is_bad_policy c.policy ≡ false
  pub spawns : has_begin_edge c.spawn_edges ≡ false
  pub splits : has_begin_edge c.split_edges ≡ false
  pub heir : lacks_parents c ≡ false

starts_tidy : (b s p : Bool) → list_all is_tidy_word (codes "starts" ∷ starts_words (record { begin = b; spawned = s; split = p })) ≡ true
starts_tidy true true true = refl
starts_tidy true true false = refl
starts_tidy true false true = refl
starts_tidy true false false = refl
starts_tidy false true true = refl
starts_tidy false true false = refl
starts_tidy false false true = refl
starts_tidy false false false = refl

may_tidy : (kinds : ℕ) → list_all is_tidy_word (codes "may" ∷ may_words kinds) ≡ true
may_tidy kinds = tidy_kept may_word (has_kind kinds) may_kinds refl

policy_tidy : (p : Policy) → list_all is_tidy_word (codes "policy" ∷ policy_words p) ≡ true
policy_tidy Refuse = refl
policy_tidy (Depend kinds) = tidy_kept word_of (has_dep kinds) all_kinds refl

scope_tidy : (s : Scope) → list_all is_tidy_word (codes "scope" ∷ scope_word s ∷ []) ≡ true
scope_tidy Others = refl
scope_tidy NonAncestors = refl

commit_tidy : (a : AtCommit) → list_all is_tidy_word (codes "commit" ∷ commit_word a ∷ []) ≡ true
commit_tidy Keeps = refl
commit_tidy ToParent = refl

extent_tidy : (e : Extent) → list_all is_tidy_word (codes "delegation" ∷ extent_word e ∷ []) ≡ true
extent_tidy Whole = refl
extent_tidy Any = refl

dep_tidy : (k : Dep) → (is_tidy_word (word_of k) && true) ≡ true
dep_tidy Cd = refl
dep_tidy Scd = refl
dep_tidy Ad = refl
dep_tidy Wd = refl
dep_tidy Td = refl
dep_tidy Ed = refl
dep_tidy Cmd = refl
dep_tidy Bd = refl
dep_tidy Sd = refl
dep_tidy Bcd = refl
dep_tidy Bad = refl
dep_tidy Wcd = refl

spawn_tidy : (k : Dep) (d : Dependent) → list_all is_tidy_word (edge_words (codes "spawn") (record { kind = k; dependent = d })) ≡ true
spawn_tidy k Starter = dep_tidy k
spawn_tidy k Started = dep_tidy k

split_tidy : (k : Dep) (d : Dependent) → list_all is_tidy_word (edge_words (codes "split") (record { kind = k; dependent = d })) ≡ true
split_tidy k Starter = dep_tidy k
split_tidy k Started = dep_tidy k

-- the open class, with all its parts, and these edges of it
abbrev parsed_but : {A : Type 0} → Class A → List StartEdge → List StartEdge → OpenClass
parsed_but c spawns splits = record {
  name = c.name;
  starts = Some c.starts;
  may = Some c.may;
  scope = Some c.scope;
  policy = Some c.policy;
  at_commit = Some c.at_commit;
  extent = Some c.extent;
  spawn_edges = spawns;
  split_edges = splits;
}

spawns_again : {A : Type 0} (n : ℕ) (os : List (Object A)) (cs : List (Class A)) (c : Class A) (es todo : List StartEdge) (lines : List (List ℕ)) (r : Result (Parts A) AsmFault) → (length lines == 0) ≡ false → has_begin_edge todo ≡ false
    → ((k : ℕ) → meaning_from k (at os cs (Some (parsed_but c (es ++ todo) []))) lines ≡ r)
    → meaning_from n (at os cs (Some (parsed_but c es []))) (map line_of (map (edge_words (codes "spawn")) todo) ++ lines) ≡ r
unfolding extended bad_word bad_name duplicate_name wrong_place bad_number too_many missing_end missing_part begin_kind_at_start heir_without_spawn bad_policy_kind
spawns_again n os cs c es [] lines r more late then = ap (λ (l : List StartEdge). meaning_from n (at os cs (Some (parsed_but c l []))) lines) (sym (append-nil es)) ∙ then n
spawns_again {A = A} n os cs c es (e ∷ todo) lines r more late then =
    let words = edge_words (codes "spawn") e in
    let tidy = spawn_tidy e.kind e.dependent in
    let kinds = or_parts (is_begin_kind e.kind) (has_begin_edge todo) late in
    let d : Draft A = at os cs (Some (parsed_but c es [])) in
    let together : (es ++ e ∷ []) ++ todo ≡ es ++ (e ∷ todo) = append_assoc es (e ∷ []) todo in
    step n d words (form.Spawn e) (map line_of (map (edge_words (codes "spawn")) todo) ++ lines) false (more_after (map line_of (map (edge_words (codes "spawn")) todo)) lines more) tidy (spawn_again e.kind e.dependent)
    (clear d (extended d words (form.Spawn e)) false (line_of words) words (form.Spawn e) (line_ascii words tidy) refl refl refl refl refl refl refl refl kinds.0 refl refl)
    ∙ spawns_again (n + 1) os cs c (es ++ e ∷ []) todo lines r more kinds.1 (λ k. ap (λ (l : List StartEdge). meaning_from k (at os cs (Some (parsed_but c l []))) lines) together ∙ then k)

splits_again : {A : Type 0} (n : ℕ) (os : List (Object A)) (cs : List (Class A)) (c : Class A) (spawns es todo : List StartEdge) (lines : List (List ℕ)) (r : Result (Parts A) AsmFault) → (length lines == 0) ≡ false → has_begin_edge todo ≡ false
    → ((k : ℕ) → meaning_from k (at os cs (Some (parsed_but c spawns (es ++ todo)))) lines ≡ r)
    → meaning_from n (at os cs (Some (parsed_but c spawns es))) (map line_of (map (edge_words (codes "split")) todo) ++ lines) ≡ r
unfolding extended bad_word bad_name duplicate_name wrong_place bad_number too_many missing_end missing_part begin_kind_at_start heir_without_spawn bad_policy_kind
splits_again n os cs c spawns es [] lines r more late then = ap (λ (l : List StartEdge). meaning_from n (at os cs (Some (parsed_but c spawns l))) lines) (sym (append-nil es)) ∙ then n
splits_again {A = A} n os cs c spawns es (e ∷ todo) lines r more late then =
    let words = edge_words (codes "split") e in
    let tidy = split_tidy e.kind e.dependent in
    let kinds = or_parts (is_begin_kind e.kind) (has_begin_edge todo) late in
    let d : Draft A = at os cs (Some (parsed_but c spawns es)) in
    let together : (es ++ e ∷ []) ++ todo ≡ es ++ (e ∷ todo) = append_assoc es (e ∷ []) todo in
    step n d words (form.Split e) (map line_of (map (edge_words (codes "split")) todo) ++ lines) false (more_after (map line_of (map (edge_words (codes "split")) todo)) lines more) tidy (split_again e.kind e.dependent)
    (clear d (extended d words (form.Split e)) false (line_of words) words (form.Split e) (line_ascii words tidy) refl refl refl refl refl refl refl refl kinds.0 refl refl)
    ∙ splits_again (n + 1) os cs c spawns (es ++ e ∷ []) todo lines r more kinds.1 (λ k. ap (λ (l : List StartEdge). meaning_from k (at os cs (Some (parsed_but c spawns l))) lines) together ∙ then k)

-- the end of a class, which may be the last line
end_again : {A : Type 0} (n : ℕ) (os : List (Object A)) (cs : List (Class A)) (c : Class A) (lines : List (List ℕ)) → IsWhole c
    → meaning_from n (at os cs (Some (parsed_but c c.spawn_edges c.split_edges))) (line_of (codes "end" ∷ []) ∷ lines) ≡ meaning_from (n + 1) (at os (cs ++ c ∷ []) None) lines
unfolding extended bad_word bad_name duplicate_name wrong_place bad_number too_many missing_end missing_part begin_kind_at_start heir_without_spawn bad_policy_kind
end_again {A = A} n os cs c lines whole =
    let words = codes "end" ∷ [] in
    let open_class = parsed_but c c.spawn_edges c.split_edges in
    let d : Draft A = at os cs (Some open_class) in
    let last = length lines == 0 in
    let spawns = once_again c.spawn_edges whole.sets.spawn_edges in
    let splits = once_again c.split_edges whole.sets.split_edges in
    step n d words form.End lines last refl refl refl
    (clear d (extended d words form.End) last (line_of words) words form.End (line_ascii words refl) refl refl refl refl refl refl (and-false last) (ap (λ b. last && b) (one_more cs (closed open_class)) ∙ and-false last) refl whole.heir refl)
    ∙ (λ i. meaning_from (n + 1) (at os (cs ++ (record c { spawn_edges = spawns i; split_edges = splits i }) ∷ []) None) lines)

-- the lines of a class
class_again : {A : Type 0} (n : ℕ) (os : List (Object A)) (cs : List (Class A)) (c : Class A) (lines : List (List ℕ)) (r : Result (Parts A) AsmFault) → IsWhole c → is_word_among (map (λ c. c.name) cs) c.name ≡ false → length cs < MOST_CLASSES
    → ((k : ℕ) → meaning_from k (at os (cs ++ c ∷ []) None) lines ≡ r)
    → meaning_from n (at os cs None) (map line_of (class_words c) ++ lines) ≡ r
unfolding extended bad_word bad_name duplicate_name wrong_place bad_number too_many missing_end missing_part begin_kind_at_start heir_without_spawn bad_policy_kind
class_again {A = A} n os cs c lines r whole new room then =
    let spawns = map (edge_words (codes "spawn")) c.spawn_edges in
    let splits = map (edge_words (codes "split")) c.split_edges in
    let end = line_of (codes "end" ∷ []) in
    let tail : List (List ℕ) = map line_of spawns ++ (map line_of splits ++ end ∷ lines) in
    let parted : map line_of (spawns ++ splits ++ (codes "end" ∷ []) ∷ []) ++ lines ≡ tail =
    ap (λ l. l ++ lines) (map-append line_of (spawns ++ splits) ((codes "end" ∷ []) ∷ []) ∙ ap (λ l. l ++ end ∷ []) (map-append line_of spawns splits))
    ∙ append_assoc (map line_of spawns ++ map line_of splits) (end ∷ []) lines
    ∙ append_assoc (map line_of spawns) (map line_of splits) (end ∷ lines) in
    let name = codes "class" ∷ c.name ∷ [] in
    let starts = codes "starts" ∷ starts_words c.starts in
    let may = codes "may" ∷ may_words c.may in
    let scope = codes "scope" ∷ scope_word c.scope ∷ [] in
    let policy = codes "policy" ∷ policy_words c.policy in
    let commit = codes "commit" ∷ commit_word c.at_commit ∷ [] in
    let extent = codes "delegation" ∷ extent_word c.extent ∷ [] in
    let l7 : List (List ℕ) = line_of extent ∷ tail in
    let l6 : List (List ℕ) = line_of commit ∷ l7 in
    let l5 : List (List ℕ) = line_of policy ∷ l6 in
    let l4 : List (List ℕ) = line_of scope ∷ l5 in
    let l3 : List (List ℕ) = line_of may ∷ l4 in
    let l2 : List (List ℕ) = line_of starts ∷ l3 in
    let c1 : OpenClass = opened c.name in
    let c2 : OpenClass = record c1 { starts = Some c.starts } in
    let c3 : OpenClass = record c2 { may = Some c.may } in
    let c4 : OpenClass = record c3 { scope = Some c.scope } in
    let c5 : OpenClass = record c4 { policy = Some c.policy } in
    let c6 : OpenClass = record c5 { at_commit = Some c.at_commit } in
    let named : list_all is_tidy_word name ≡ true = and_from (is_tidy_word c.name) true (tidy_name c.name whole.named) refl in
    ap (λ l. meaning_from n (at os cs None) (line_of name ∷ line_of starts ∷ line_of may ∷ line_of scope ∷ line_of policy ∷ line_of commit ∷ line_of extent ∷ l)) parted
    ∙ step n (at os cs None) name form.Class l2 false (some_after [] (line_of starts) l3) named refl
    (clear (at os cs None) (at os cs (Some c1)) false (line_of name) name form.Class (line_ascii name named) refl (ap not whole.named) (among_none cs c.name new) refl refl (lt-leb MOST_CLASSES (length cs) room) refl refl refl refl refl)
    ∙ step (n + 1) (at os cs (Some c1)) starts (form.Starts c.starts) l3 false (some_after [] (line_of may) l4) (starts_tidy c.starts.begin c.starts.spawned c.starts.split) (starts_again c.starts.begin c.starts.spawned c.starts.split)
    (clear (at os cs (Some c1)) (at os cs (Some c2)) false (line_of starts) starts (form.Starts c.starts) (line_ascii starts (starts_tidy c.starts.begin c.starts.spawned c.starts.split)) refl refl refl refl refl refl refl refl refl refl refl)
    ∙ step (n + 1 + 1) (at os cs (Some c2)) may (form.May c.may) l4 false (some_after [] (line_of scope) l5) (may_tidy c.may) (may_again c.may whole.sets.may)
    (clear (at os cs (Some c2)) (at os cs (Some c3)) false (line_of may) may (form.May c.may) (line_ascii may (may_tidy c.may)) refl refl refl refl refl refl refl refl refl refl refl)
    ∙ step (n + 1 + 1 + 1) (at os cs (Some c3)) scope (form.Scope c.scope) l5 false (some_after [] (line_of policy) l6) (scope_tidy c.scope) (scope_again c.scope)
    (clear (at os cs (Some c3)) (at os cs (Some c4)) false (line_of scope) scope (form.Scope c.scope) (line_ascii scope (scope_tidy c.scope)) refl refl refl refl refl refl refl refl refl refl refl)
    ∙ step (n + 1 + 1 + 1 + 1) (at os cs (Some c4)) policy (form.Policy c.policy) l6 false (some_after [] (line_of commit) l7) (policy_tidy c.policy) (policy_again c.policy whole.sets.policy)
    (clear (at os cs (Some c4)) (at os cs (Some c5)) false (line_of policy) policy (form.Policy c.policy) (line_ascii policy (policy_tidy c.policy)) refl refl refl refl refl refl refl refl refl refl whole.policy)
    ∙ step (n + 1 + 1 + 1 + 1 + 1) (at os cs (Some c5)) commit (form.Commit c.at_commit) l7 false (some_after [] (line_of extent) tail) (commit_tidy c.at_commit) (commit_again c.at_commit)
    (clear (at os cs (Some c5)) (at os cs (Some c6)) false (line_of commit) commit (form.Commit c.at_commit) (line_ascii commit (commit_tidy c.at_commit)) refl refl refl refl refl refl refl refl refl refl refl)
    ∙ step (n + 1 + 1 + 1 + 1 + 1 + 1) (at os cs (Some c6)) extent (form.Delegation c.extent) tail false (more_after (map line_of spawns) (map line_of splits ++ end ∷ lines) (some_after (map line_of splits) end lines)) (extent_tidy c.extent) (extent_again c.extent)
    (clear (at os cs (Some c6)) (at os cs (Some (parsed_but c [] []))) false (line_of extent) extent (form.Delegation c.extent) (line_ascii extent (extent_tidy c.extent)) refl refl refl refl refl refl refl refl refl refl refl)
    ∙ spawns_again (n + 1 + 1 + 1 + 1 + 1 + 1 + 1) os cs c [] c.spawn_edges (map line_of splits ++ end ∷ lines) r (some_after (map line_of splits) end lines) whole.spawns
    (λ k. splits_again k os cs c c.spawn_edges [] c.split_edges (end ∷ lines) r (some_after [] end lines) whole.splits
    (λ k. end_again k os cs c lines whole ∙ then (k + 1)))

-- the lines of all classes
classes_again : {A : Type 0} (n : ℕ) (os : List (Object A)) (cs todo : List (Class A)) → AllByRecursion IsWhole todo → has_twice (map (λ c. c.name) (cs ++ todo)) ≡ false → length (cs ++ todo) ≤ MOST_CLASSES
    → meaning_from n (at os cs None) (map line_of (flat_map class_words todo)) ≡ Ok (record { objects = os; classes = cs ++ todo })
unfolding meaning_from
classes_again {A = A} n os cs [] whole apart few = ap (λ (l : List (Class A)). Ok (record { objects = os; classes = l })) (sym (append-nil cs))
classes_again {A = A} n os cs (c ∷ todo) whole apart few =
    let new = new_from_apart (map (λ (c : Class A). c.name) cs) c.name (map (λ (c : Class A). c.name) todo) (ap has_twice (sym (map-append (λ (c : Class A). c.name) cs (c ∷ todo))) ∙ apart) in
    let together : (cs ++ c ∷ []) ++ todo ≡ cs ++ (c ∷ todo) = append_assoc cs (c ∷ []) todo in
    ap (meaning_from n (at os cs None)) (map-append line_of (class_words c) (flat_map class_words todo))
    ∙ class_again n os cs c (map line_of (flat_map class_words todo)) (Ok (record { objects = os; classes = cs ++ (c ∷ todo) })) whole.0 new (omega (arith, few, length-append cs (c ∷ todo)))
    (λ k. classes_again k os (cs ++ c ∷ []) todo whole.1 (ap (λ (l : List (Class A)). has_twice (map (λ c. c.name) l)) together ∙ apart) (omega (arith, few, ap length together))
    ∙ ap (λ (l : List (Class A)). Ok (record { objects = os; classes = l })) together)

-- whether the words of each line are tidy
abbrev are_tidy : List (List (List ℕ)) → Bool
are_tidy lines = list_all (λ words. list_all is_tidy_word words) lines

objects_tidy : {A : Type 0} (os : List (Object A)) → AllByRecursion (λ o. HasFirst o.kind) os → list_all is_name (map (λ o. o.name) os) ≡ true → are_tidy (map object_words os) ≡ true
objects_tidy [] fits named = refl
objects_tidy {A = A} (o ∷ os) fits named =
    let names = and_parts (is_name o.name) (list_all is_name (map (λ (o : Object A). o.name) os)) named in
    and_from (list_all is_tidy_word (object_words o)) (are_tidy (map object_words os)) (object_tidy A o.name o.kind fits.0 names.0) (objects_tidy os fits.1 names.1)

spawns_tidy : (es : List StartEdge) → are_tidy (map (edge_words (codes "spawn")) es) ≡ true
spawns_tidy [] = refl
spawns_tidy (e ∷ es) = and_from (list_all is_tidy_word (edge_words (codes "spawn") e)) (are_tidy (map (edge_words (codes "spawn")) es)) (spawn_tidy e.kind e.dependent) (spawns_tidy es)

splits_tidy : (es : List StartEdge) → are_tidy (map (edge_words (codes "split")) es) ≡ true
splits_tidy [] = refl
splits_tidy (e ∷ es) = and_from (list_all is_tidy_word (edge_words (codes "split") e)) (are_tidy (map (edge_words (codes "split")) es)) (split_tidy e.kind e.dependent) (splits_tidy es)

class_tidy : {A : Type 0} (c : Class A) → IsWhole c → are_tidy (class_words c) ≡ true
class_tidy c whole =
    let spawns = map (edge_words (codes "spawn")) c.spawn_edges in
    let splits = map (edge_words (codes "split")) c.split_edges in
    let name : list_all is_tidy_word (codes "class" ∷ c.name ∷ []) ≡ true = and_from (is_tidy_word c.name) true (tidy_name c.name whole.named) refl in
    let edges : are_tidy (spawns ++ splits) ≡ true = list_all-append (λ words. list_all is_tidy_word words) spawns splits ∙ and_from (are_tidy spawns) (are_tidy splits) (spawns_tidy c.spawn_edges) (splits_tidy c.split_edges) in
    let end : are_tidy (spawns ++ splits ++ (codes "end" ∷ []) ∷ []) ≡ true = list_all-append (λ words. list_all is_tidy_word words) (spawns ++ splits) ((codes "end" ∷ []) ∷ []) ∙ and_from (are_tidy (spawns ++ splits)) true edges refl in
    and_from _ _ name
    (and_from _ _ (starts_tidy c.starts.begin c.starts.spawned c.starts.split)
    (and_from _ _ (may_tidy c.may)
    (and_from _ _ (scope_tidy c.scope)
    (and_from _ _ (policy_tidy c.policy)
    (and_from _ _ (commit_tidy c.at_commit)
    (and_from _ _ (extent_tidy c.extent) end))))))

classes_tidy : {A : Type 0} (cs : List (Class A)) → AllByRecursion IsWhole cs → are_tidy (flat_map class_words cs) ≡ true
classes_tidy [] whole = refl
classes_tidy (c ∷ cs) whole =
    list_all-append (λ words. list_all is_tidy_word words) (class_words c) (flat_map class_words cs)
    ∙ and_from (are_tidy (class_words c)) (are_tidy (flat_map class_words cs)) (class_tidy c whole.0) (classes_tidy cs whole.1)

one_lines : (lines : List (List (List ℕ))) → are_tidy lines ≡ true → AllByRecursion IsOneLine (map line_of lines)
one_lines [] tidy = tt
one_lines (words ∷ lines) tidy =
    let parts = and_parts (list_all is_tidy_word words) (are_tidy lines) tidy in
    (one_line words parts.0, one_lines lines parts.1)

lines_all : (lines : List (List ℕ)) → (length lines == 0) ≡ false → AllByRecursion IsOneLine lines → lines_of (text_of lines) ≡ lines
lines_all [] some ones = absurd (true≢false some)
lines_all (line ∷ lines) some ones = lines_again line lines ones

-- properties of a checked model's objects and classes
model_again : {A : Type 0} (os : List (Object A)) (cs : List (Class A)) → (length cs == 0) ≡ false → AllByRecursion (λ o. HasFirst o.kind) os → list_all is_name (map (λ o. o.name) os) ≡ true → has_twice (map (λ o. o.name) os) ≡ false
    → length os ≤ MOST_OBJECTS → AllByRecursion IsWhole cs → has_twice (map (λ c. c.name) cs) ≡ false → length cs ≤ MOST_CLASSES
    → meaning (canonical (record { objects = os; classes = cs })) ≡ Ok (record { objects = os; classes = cs })
unfolding canonical
model_again os [] some fits named apart few whole once small = absurd (true≢false some)
model_again {A = A} os (c ∷ cs) some fits named apart few whole once small =
    let m : Parts A = record { objects = os; classes = c ∷ cs } in
    let lines = map line_of (model_words m) in
    let objects : List (List ℕ) = map line_of (map object_words os) in
    let classes : List (List ℕ) = map line_of (flat_map class_words (c ∷ cs)) in
    let next = line_of (codes "class" ∷ c.name ∷ []) in
    let parted : lines ≡ objects ++ classes = map-append line_of (map object_words os) (flat_map class_words (c ∷ cs)) in
    let more : (length lines == 0) ≡ false = ap (λ l. length l == 0) parted ∙ some_after objects next (drop 1 classes) in
    let tidy : are_tidy (model_words m) ≡ true =
    list_all-append (λ words. list_all is_tidy_word words) (map object_words os) (flat_map class_words (c ∷ cs))
    ∙ and_from (are_tidy (map object_words os)) (are_tidy (flat_map class_words (c ∷ cs))) (objects_tidy os fits named) (classes_tidy (c ∷ cs) whole) in
    ap (meaning_after []) (lines_all lines more (one_lines (model_words m) tidy))
    ∙ after_is_from [] lines
    ∙ ap (meaning_from 1 nothing_yet) parted
    ∙ objects_again 1 [] os next (drop 1 classes) (Ok m) fits named apart few (λ k. classes_again k os [] (c ∷ cs) whole once small)

or_none : {X : Type 0} (a b : Option X) → option_or a b ≡ None → (a ≡ None) × (b ≡ None)
or_none None b e = (refl, e)
or_none (Some x) b e = absurd (cc)

no_fault : (b : Bool) (f : ModelFault) → fault_if b f ≡ None → b ≡ false
no_fault true f e = cc
no_fault false f e = refl

each_first : {A : Type 0} (os : List (Object A)) → All (λ o. HasFirst o.kind) os → AllByRecursion (λ o. HasFirst o.kind) os
each_first [] all = tt
each_first (o ∷ os) all = (all 0 o (omega arith), each_first os (λ k d within. all (suc k) d (omega arith)))

each_whole : {A : Type 0} (cs : List (Class A)) → list_all is_name (map (λ c. c.name) cs) ≡ true → All (λ c. HasSets c) cs → list_any has_begin_kind cs ≡ false → list_any lacks_parents cs ≡ false → list_any (λ c. is_bad_policy c.policy) cs ≡ false
    → AllByRecursion IsWhole cs
each_whole [] named sets begins heirs policies = tt
each_whole {A = A} (c ∷ cs) named sets begins heirs policies =
    let names = and_parts (is_name c.name) (list_all is_name (map (λ (c : Class A). c.name) cs)) named in
    let begin = or_parts (has_begin_kind c) (list_any has_begin_kind cs) begins in
    let edges = or_parts (has_begin_edge c.spawn_edges) (has_begin_edge c.split_edges) begin.0 in
    let heir = or_parts (lacks_parents c) (list_any lacks_parents cs) heirs in
    let policy = or_parts (is_bad_policy c.policy) (list_any (λ (c : Class A). is_bad_policy c.policy) cs) policies in (
      record { named = names.0; sets = sets 0 c (omega arith); policy = policy.0; spawns = edges.0; splits = edges.1; heir = heir.0 },
      each_whole cs names.1 (λ k d within. sets (suc k) d (omega arith)) begin.1 heir.1 policy.1,
    )

-- the canonical text of a model parses to the model
pub read_again : {A : Type 0} (m : Parts A) → AreOfModel m → meaning (canonical m) ≡ Ok m
read_again {A = A} m known =
    let policies = or_none _ (fault_if (list_any (λ (k : Class A). is_bad_policy k.policy) m.classes) fault.BadPolicyKind) known.faultless in
    let heirs = or_none _ (fault_if (list_any lacks_parents m.classes) fault.HeirWithoutSpawn) policies.0 in
    let begins = or_none _ (fault_if (list_any has_begin_kind m.classes) fault.BeginKindAtStart) heirs.0 in
    let names = or_none _ (fault_if (not (list_all is_name (map (λ (o : Object A). o.name) m.objects) && list_all is_name (map (λ (c : Class A). c.name) m.classes))) fault.BadName) begins.0 in
    let twice = or_none _ (fault_if (has_twice (map (λ (o : Object A). o.name) m.objects) || has_twice (map (λ (c : Class A). c.name) m.classes)) fault.DuplicateName) names.0 in
    let objects = or_none _ (fault_if (nat_lt MOST_OBJECTS (length m.objects)) fault.TooManyObjects) twice.0 in
    let classes = or_none _ (fault_if (nat_lt MOST_CLASSES (length m.classes)) fault.TooManyClasses) objects.0 in
    let some = or_none None (fault_if (length m.classes == 0) fault.NoClass) classes.0 in
    let once = or_parts (has_twice (map (λ (o : Object A). o.name) m.objects)) (has_twice (map (λ (c : Class A). c.name) m.classes)) (no_fault _ fault.DuplicateName twice.1) in
    let named = and_parts (list_all is_name (map (λ (o : Object A). o.name) m.objects)) (list_all is_name (map (λ (c : Class A). c.name) m.classes)) (not-false _ (no_fault _ fault.BadName names.1)) in
    model_again m.objects m.classes (no_fault _ fault.NoClass some.1) (each_first m.objects known.firsts) named.0 once.0 (ltb-false MOST_OBJECTS (length m.objects) (no_fault _ fault.TooManyObjects objects.1))
    (each_whole m.classes named.1 known.sets (no_fault _ fault.BeginKindAtStart begins.1) (no_fault _ fault.HeirWithoutSpawn heirs.1) (no_fault _ fault.BadPolicyKind policies.1))
    once.1 (ltb-false MOST_CLASSES (length m.classes) (no_fault _ fault.TooManyClasses classes.1))
