-- A diagnostic has the lines that its code needs.
use Rattle.std.proofs.Common.{◌≡◌, ℕ, Bool, true, false, cond, ◌&&◌, ◌||◌, List, [], ◌∷◌, map, Bor, refl, sym, ap, subst, ◌∙◌, true≢false}
use Rattle.std.specs.Prelude.{Option, Some, None, is_some, option_and_then, option_map}
use Rattle.std.specs.List.{list_any}
use Rattle.std.specs.Map.{keys_of}
use Rattle.std.specs.Option.{option_map_or, option_or}
use Rattle.std.specs.Str.{bytes_eq}
use Rattle.acta_table.specs.Faults.{lacks_parents}
use Rattle.acta_words.specs.Text.{is_word_among, words_of}
use Rattle.acta_lang.specs.declared.diagnostic.Expected.TheVariants as want
use Rattle.acta_lang.specs.declared.draft.ClassDraft.{ClassDraft}
use Rattle.acta_lang.specs.declared.draft.Draft as held
use Rattle.acta_lang.specs.declared.fault.Code.{Code}
use Rattle.acta_lang.specs.declared.fault.Code.TheVariants.{NotAscii, BadWord, BadName, DuplicateName, WrongPlace, BadNumber, TooMany, MissingEnd, MissingPart, BeginKindAtStart, HeirWithoutSpawn, BadPolicyKind}
use Rattle.acta_lang.specs.declared.form.Form.{Form}
use Rattle.acta_lang.specs.declared.form.Form.TheVariants as form
use Rattle.acta_lang.specs.Diagnostics.{IsWhole}
use Rattle.acta_lang.specs.Drafts.{Draft, OpenClass, closed, extended, has_part, with_closed, with_parsed}
use Rattle.acta_lang.specs.Faults.{class_names, code_at, code_if, duplicate_name, heir_without_spawn, is_class, is_end, is_object, lowest_of, missing_end, missing_part, object_names, not_ascii, bad_word, bad_name, wrong_place, bad_number, too_many, begin_kind_at_start, bad_policy_kind}
use Rattle.acta_lang.specs.Forms.{form_of, name_in}
use Rattle.acta_lang.specs.Lines.{ClassAt, begun, part_line, with_line}
use Rattle.acta_lang.specs.Places.{wrongly_placed}
use Rattle.acta_lang.specs.inside.Noted.{AreParsed, IsParsed, Noted, class_noted, closed_noted, current_at, current_line, diagnosis, earlier_noted, line_of, noted, noted_by, parsed_more}
use Rattle.acta_lang.specs.inside.Abstraction.{current_shown, abstraction}
use Rattle.acta_lang.proofs.Held.{among_classes, object_names-abstraction}

-- ---- a code comes from a test that passes

abbrev test_of : {A : Type 0} → Draft A → Draft A → Bool → List ℕ → List (List ℕ) → Form → Code → Bool
test_of d behind is_last line words parsed NotAscii = not_ascii line
test_of d behind is_last line words parsed BadWord = bad_word parsed
test_of d behind is_last line words parsed BadName = bad_name words parsed
test_of d behind is_last line words parsed DuplicateName = duplicate_name d words parsed
test_of d behind is_last line words parsed WrongPlace = wrong_place d parsed
test_of d behind is_last line words parsed BadNumber = bad_number words parsed
test_of d behind is_last line words parsed TooMany = too_many d parsed
test_of d behind is_last line words parsed MissingEnd = missing_end is_last behind
test_of d behind is_last line words parsed MissingPart = missing_part is_last d behind parsed
test_of d behind is_last line words parsed BeginKindAtStart = begin_kind_at_start parsed
test_of d behind is_last line words parsed HeirWithoutSpawn = heir_without_spawn d parsed
test_of d behind is_last line words parsed BadPolicyKind = bad_policy_kind parsed

code-is : (k c : Code) → Some k ≡ Some c → k ≡ c
code-is k c e = cc

peel : (rest : Option Code) (b : Bool) (k c : Code) (P : Code → Type 0) → (b ≡ true → P k) → (rest ≡ Some c → P c) → option_or rest (code_if b k) ≡ Some c → P c
peel None true k c P here before e = subst P (code-is k c e) (here refl)
peel None false k c P here before e = absurd cc
peel (Some x) b k c P here before e = before e

test-holds : {A : Type 0} (d behind : Draft A) (is_last : Bool) (line : List ℕ) (words : List (List ℕ)) (parsed : Form) (c : Code) → lowest_of d behind is_last line words parsed ≡ Some c → test_of d behind is_last line words parsed c ≡ true
test-holds d behind is_last line words parsed c e =
    let P = λ (k : Code). test_of d behind is_last line words parsed k ≡ true in
    peel _ (bad_policy_kind parsed) BadPolicyKind c P (λ t. t)
    (peel _ (heir_without_spawn d parsed) HeirWithoutSpawn c P (λ t. t)
    (peel _ (begin_kind_at_start parsed) BeginKindAtStart c P (λ t. t)
    (peel _ (missing_part is_last d behind parsed) MissingPart c P (λ t. t)
    (peel _ (missing_end is_last behind) MissingEnd c P (λ t. t)
    (peel _ (too_many d parsed) TooMany c P (λ t. t)
    (peel _ (bad_number words parsed) BadNumber c P (λ t. t)
    (peel _ (wrong_place d parsed) WrongPlace c P (λ t. t)
    (peel _ (duplicate_name d words parsed) DuplicateName c P (λ t. t)
    (peel _ (bad_name words parsed) BadName c P (λ t. t)
    (peel _ (bad_word parsed) BadWord c P (λ t. t)
    (peel None (not_ascii line) NotAscii c P (λ t. t) (λ none. absurd cc)))))))))))) e

-- ---- a name that is declared has a line

names-found : {V : Type 0} (name : List ℕ) (line : V → ℕ) (es : List (Bor (List ℕ) × V)) → is_some (line_of name (map (λ e. record { name = e.0.now; line = line e.1 }) es)) ≡ list_any (bytes_eq name) (map (λ k. k.now) (keys_of es))
names-found name line [] = refl
names-found {V} name line (e ∷ es) = of_test (bytes_eq name e.0.now) (names-found name line es)
  where
    of_test : (b : Bool) → is_some (line_of name (map (λ e. record { name = e.0.now; line = line e.1 }) es)) ≡ list_any (bytes_eq name) (map (λ k. k.now) (keys_of es))
        → is_some (cond b (Some (line e.1)) (line_of name (map (λ e. record { name = e.0.now; line = line e.1 }) es))) ≡ (b || list_any (bytes_eq name) (map (λ k. k.now) (keys_of es)))
    of_test true rest = refl
    of_test false rest = rest

current-found : {A : Type 0} (name : List ℕ) (o : Option (ClassDraft A)) → is_some (current_line name (option_map current_at o)) ≡ option_map_or (λ (c : OpenClass). bytes_eq name c.name) (option_map current_shown o) false
current-found name None = refl
current-found name (Some c) = of_test (bytes_eq name c.name.now)
  where
    of_test : (b : Bool) → is_some (cond b (Some c.line) None) ≡ b
    of_test true = refl
    of_test false = refl

either : (o p : Option ℕ) → is_some (option_or o p) ≡ (is_some o || is_some p)
either None p = refl
either (Some n) p = refl

object-found : {A : Type 0} (h : held.Draft A) (name : List ℕ) → is_some (line_of name (noted h).objects) ≡ is_word_among (object_names (abstraction h)) name
object-found {A} h name =
    names-found name (λ v. v.line) h.objects.entries ∙ sym (ap (λ names. is_word_among names name) (object_names-abstraction A h.objects.entries))

class-found : {A : Type 0} (h : held.Draft A) (name : List ℕ) → is_some (option_or (line_of name (noted h).classes) (current_line name (noted h).current)) ≡ is_word_among (class_names (abstraction h)) name
class-found h name =
    either (line_of name (noted h).classes) (current_line name (noted h).current)
    ∙ (λ i. names-found name (λ v. v.line) h.classes.entries i || current-found name h.current i)
    ∙ sym (among_classes name h.classes.entries (option_map current_shown h.current))

apart : (parsed : Form) → (is_object parsed && is_class parsed) ≡ false
apart form.Register = refl
apart form.Counter = refl
apart form.Elements = refl
apart form.Class = refl
apart form.Blank = refl
apart (form.Starts s) = refl
apart (form.May s) = refl
apart (form.Scope s) = refl
apart (form.Policy s) = refl
apart (form.Commit s) = refl
apart (form.Delegation s) = refl
apart (form.Spawn s) = refl
apart (form.Split s) = refl
apart form.End = refl
apart form.Unknown = refl

one_of : (o k a b : Bool) (p q : Option ℕ) → (o && k) ≡ false → (o && a || k && b) ≡ true → is_some p ≡ a → is_some q ≡ b → is_some (cond k q p) ≡ true
one_of true true a b p q isnt both pa qb = absurd (true≢false isnt)
one_of true false true b p q isnt both pa qb = pa
one_of true false false b p q isnt both pa qb = absurd (true≢false (sym both))
one_of false true a b p q isnt both pa qb = qb ∙ both
one_of false false a b p q isnt both pa qb = absurd (true≢false (sym both))

name-has : {A : Type 0} (h : held.Draft A) (words : List (List ℕ)) (parsed : Form) → duplicate_name (abstraction h) words parsed ≡ true → is_some (earlier_noted (noted h) words parsed DuplicateName) ≡ true
unfolding duplicate_name
name-has h words parsed twice =
    one_of (is_object parsed) (is_class parsed) (is_word_among (object_names (abstraction h)) (name_in words)) (is_word_among (class_names (abstraction h)) (name_in words))
    (line_of (name_in words) (noted h).objects) (option_or (line_of (name_in words) (noted h).classes) (current_line (name_in words) (noted h).current))
    (apart parsed) twice (object-found h (name_in words)) (class-found h (name_in words))

-- ---- an open class

same_open : {A : Type 0} (o : Option (ClassDraft A)) → is_some (option_map current_at o) ≡ is_some (option_map current_shown o)
same_open None = refl
same_open (Some c) = refl

is_there : {X : Type 0} (f : X → Bool) (o : Option X) (b : Bool) → (b && option_map_or f o false) ≡ true → is_some o ≡ true
is_there f (Some x) b holds = refl
is_there f None true holds = absurd (true≢false (sym holds))
is_there f None false holds = absurd (true≢false (sym holds))

heir-has : {A : Type 0} (h : held.Draft A) (parsed : Form) → heir_without_spawn (abstraction h) parsed ≡ true → is_some (noted h).current ≡ true
unfolding heir_without_spawn
heir-has {A} h parsed heir = same_open h.current ∙ is_there (λ (c : OpenClass). lacks_parents (closed {A = A} c)) (abstraction h).current (is_end parsed) heir

both : (a b : Bool) → (a && b) ≡ true → b ≡ true
both true b holds = holds
both false b holds = absurd (true≢false (sym holds))

mapped : {X Y : Type 0} (f : X → Y) (o : Option X) → is_some (option_map f o) ≡ is_some o
mapped f None = refl
mapped f (Some x) = refl

closes : {A : Type 0} (d : Draft A) (o : Option OpenClass) → d.current ≡ o → is_some (with_closed d o).current ≡ false
closes d None is = ap (λ (o : Option OpenClass). is_some o) is
closes d (Some c) is = refl

open-has : {A : Type 0} (d : Draft A) (words : List (List ℕ)) (parsed : Form) → is_class parsed ≡ false → is_some (extended d words parsed).current ≡ true → is_some d.current ≡ true
unfolding extended
open-has d words form.Register isnt holds = holds
open-has d words form.Counter isnt holds = holds
open-has d words form.Elements isnt holds = holds
open-has d words form.Class isnt holds = absurd (true≢false isnt)
open-has d words form.End isnt holds = absurd (true≢false (sym holds ∙ closes d d.current refl))
open-has d words form.Blank isnt holds = sym (mapped (with_parsed form.Blank) d.current) ∙ holds
open-has d words (form.Starts s) isnt holds = sym (mapped (with_parsed (form.Starts s)) d.current) ∙ holds
open-has d words (form.May s) isnt holds = sym (mapped (with_parsed (form.May s)) d.current) ∙ holds
open-has d words (form.Scope s) isnt holds = sym (mapped (with_parsed (form.Scope s)) d.current) ∙ holds
open-has d words (form.Policy s) isnt holds = sym (mapped (with_parsed (form.Policy s)) d.current) ∙ holds
open-has d words (form.Commit s) isnt holds = sym (mapped (with_parsed (form.Commit s)) d.current) ∙ holds
open-has d words (form.Delegation s) isnt holds = sym (mapped (with_parsed (form.Delegation s)) d.current) ∙ holds
open-has d words (form.Spawn s) isnt holds = sym (mapped (with_parsed (form.Spawn s)) d.current) ∙ holds
open-has d words (form.Split s) isnt holds = sym (mapped (with_parsed (form.Split s)) d.current) ∙ holds
open-has d words form.Unknown isnt holds = sym (mapped (with_parsed form.Unknown) d.current) ∙ holds

end-has : {A : Type 0} (h : held.Draft A) (n : ℕ) (is_last : Bool) (words : List (List ℕ)) (parsed : Form) → missing_end is_last (extended (abstraction h) words parsed) ≡ true → is_some (class_noted (noted h) n words parsed MissingEnd) ≡ true
unfolding missing_end
end-has h n is_last words parsed missing = of_test (is_class parsed) refl
  where
    of_test : (b : Bool) → is_class parsed ≡ b → is_some (cond b (Some (begun (name_in words) n)) (noted h).current) ≡ true
    of_test true is = refl
    of_test false is = same_open h.current ∙ open-has (abstraction h) words parsed is (both is_last (is_some (extended (abstraction h) words parsed).current) missing)

-- ---- a part that is repeated

parsed-next : (parsed : Form) (n : ℕ) (c : OpenClass) (k : ClassAt) → AreParsed c k.parts → AreParsed (with_parsed parsed c) (with_line parsed n k.parts)
parsed-next (form.Starts s) n c k h = record { starts = refl; may = h.may; scope = h.scope; policy = h.policy; commit = h.commit; delegation = h.delegation }
parsed-next (form.May s) n c k h = record { starts = h.starts; may = refl; scope = h.scope; policy = h.policy; commit = h.commit; delegation = h.delegation }
parsed-next (form.Scope s) n c k h = record { starts = h.starts; may = h.may; scope = refl; policy = h.policy; commit = h.commit; delegation = h.delegation }
parsed-next (form.Policy s) n c k h = record { starts = h.starts; may = h.may; scope = h.scope; policy = refl; commit = h.commit; delegation = h.delegation }
parsed-next (form.Commit s) n c k h = record { starts = h.starts; may = h.may; scope = h.scope; policy = h.policy; commit = refl; delegation = h.delegation }
parsed-next (form.Delegation s) n c k h = record { starts = h.starts; may = h.may; scope = h.scope; policy = h.policy; commit = h.commit; delegation = refl }
parsed-next form.Blank n c k h = h
parsed-next form.Register n c k h = h
parsed-next form.Counter n c k h = h
parsed-next form.Elements n c k h = h
parsed-next form.Class n c k h = h
parsed-next (form.Spawn s) n c k h = record { starts = h.starts; may = h.may; scope = h.scope; policy = h.policy; commit = h.commit; delegation = h.delegation }
parsed-next (form.Split s) n c k h = record { starts = h.starts; may = h.may; scope = h.scope; policy = h.policy; commit = h.commit; delegation = h.delegation }
parsed-next form.End n c k h = h
parsed-next form.Unknown n c k h = h

say-next : (parsed : Form) (n : ℕ) (o : Option OpenClass) (p : Option ClassAt) → IsParsed o p → IsParsed (option_map (with_parsed parsed) o) (option_map (parsed_more parsed n) p)
say-next parsed n None None h = tt
say-next parsed n None (Some k) h = absurd h
say-next parsed n (Some c) None h = absurd h
say-next parsed n (Some c) (Some k) h = parsed-next parsed n c k h

close-next : {A : Type 0} (d : Draft A) (x : Noted) (o : Option OpenClass) (p : Option ClassAt) → d.current ≡ o → x.current ≡ p → IsParsed o p → IsParsed (with_closed d o).current (closed_noted x p).current
close-next d x None None is at h = subst (λ (q : Option OpenClass). IsParsed q x.current) (sym is) (subst (λ (q : Option ClassAt). IsParsed None q) (sym at) tt)
close-next d x None (Some k) is at h = absurd h
close-next d x (Some c) None is at h = absurd h
close-next d x (Some c) (Some k) is at h = tt

pub line-next : {A : Type 0} (n : ℕ) (words : List (List ℕ)) (parsed : Form) (d : Draft A) (x : Noted) → IsParsed d.current x.current → IsParsed (extended d words parsed).current (noted_by n words parsed x).current
unfolding extended
line-next n words form.Register d x h = h
line-next n words form.Counter d x h = h
line-next n words form.Elements d x h = h
line-next n words form.Class d x h = record { starts = refl; may = refl; scope = refl; policy = refl; commit = refl; delegation = refl }
line-next n words form.End d x h = close-next d x d.current x.current refl refl h
line-next n words form.Blank d x h = say-next form.Blank n d.current x.current h
line-next n words (form.Starts s) d x h = say-next (form.Starts s) n d.current x.current h
line-next n words (form.May s) d x h = say-next (form.May s) n d.current x.current h
line-next n words (form.Scope s) d x h = say-next (form.Scope s) n d.current x.current h
line-next n words (form.Policy s) d x h = say-next (form.Policy s) n d.current x.current h
line-next n words (form.Commit s) d x h = say-next (form.Commit s) n d.current x.current h
line-next n words (form.Delegation s) d x h = say-next (form.Delegation s) n d.current x.current h
line-next n words (form.Spawn s) d x h = say-next (form.Spawn s) n d.current x.current h
line-next n words (form.Split s) d x h = say-next (form.Split s) n d.current x.current h
line-next n words form.Unknown d x h = say-next form.Unknown n d.current x.current h

part-has : (parsed : Form) (c : OpenClass) (k : ClassAt) → AreParsed c k.parts → has_part parsed c ≡ true → is_some (part_line parsed k.parts) ≡ true
part-has (form.Starts s) c k h holds = h.starts ∙ holds
part-has (form.May s) c k h holds = h.may ∙ holds
part-has (form.Scope s) c k h holds = h.scope ∙ holds
part-has (form.Policy s) c k h holds = h.policy ∙ holds
part-has (form.Commit s) c k h holds = h.commit ∙ holds
part-has (form.Delegation s) c k h holds = h.delegation ∙ holds
part-has form.Blank c k h holds = absurd (true≢false (sym holds))
part-has form.Register c k h holds = absurd (true≢false (sym holds))
part-has form.Counter c k h holds = absurd (true≢false (sym holds))
part-has form.Elements c k h holds = absurd (true≢false (sym holds))
part-has form.Class c k h holds = absurd (true≢false (sym holds))
part-has (form.Spawn s) c k h holds = absurd (true≢false (sym holds))
part-has (form.Split s) c k h holds = absurd (true≢false (sym holds))
part-has form.End c k h holds = absurd (true≢false (sym holds))
part-has form.Unknown c k h holds = absurd (true≢false (sym holds))

once-is : (b : Bool) → cond b want.Once want.Ended ≡ want.Once → b ≡ true
once-is true e = refl
once-is false e = absurd cc

again-has : (o : Option OpenClass) (p : Option ClassAt) (parsed : Form) → IsParsed o p → wrongly_placed o parsed ≡ want.Once → (is_some (option_and_then (λ (k : ClassAt). part_line parsed k.parts) p) ≡ true) × (is_some p ≡ true)
again-has None p parsed h once = absurd cc
again-has (Some c) None parsed h once = absurd h
again-has (Some c) (Some k) parsed h once = (part-has parsed c k h (once-is (has_part parsed c) once), refl)

-- ---- all of it

pub is_whole : {A : Type 0} (h : held.Draft A) (n : ℕ) (is_last : Bool) (line : List ℕ) (code : Code) → IsParsed (abstraction h).current (noted h).current → code_at (abstraction h) is_last line ≡ Some code
    → IsWhole (diagnosis (abstraction h) (noted h) n line code)
is_whole h n is_last line code parsed found =
    let words = words_of line in
    let form = form_of words in
    let test = test-holds (abstraction h) (extended (abstraction h) words form) is_last line words form code found in
    of_code code test
  where
    of_code : (code : Code) → test_of (abstraction h) (extended (abstraction h) (words_of line) (form_of (words_of line))) is_last line (words_of line) (form_of (words_of line)) code ≡ true → IsWhole (diagnosis (abstraction h) (noted h) n line code)
    of_code DuplicateName test = record { named = λ e. name-has h (words_of line) (form_of (words_of line)) test; again = λ e f. absurd cc; unended = λ e. absurd cc; orphaned = λ e. absurd cc }
    of_code WrongPlace test = record { named = λ e. absurd cc; again = λ e f. again-has (abstraction h).current (noted h).current (form_of (words_of line)) parsed f; unended = λ e. absurd cc; orphaned = λ e. absurd cc }
    of_code MissingEnd test = record { named = λ e. absurd cc; again = λ e f. absurd cc; unended = λ e. end-has h n is_last (words_of line) (form_of (words_of line)) test; orphaned = λ e. absurd cc }
    of_code HeirWithoutSpawn test = record { named = λ e. absurd cc; again = λ e f. absurd cc; unended = λ e. absurd cc; orphaned = λ e. heir-has h (form_of (words_of line)) test }
    of_code NotAscii test = record { named = λ e. absurd cc; again = λ e f. absurd cc; unended = λ e. absurd cc; orphaned = λ e. absurd cc }
    of_code BadWord test = record { named = λ e. absurd cc; again = λ e f. absurd cc; unended = λ e. absurd cc; orphaned = λ e. absurd cc }
    of_code BadName test = record { named = λ e. absurd cc; again = λ e f. absurd cc; unended = λ e. absurd cc; orphaned = λ e. absurd cc }
    of_code BadNumber test = record { named = λ e. absurd cc; again = λ e f. absurd cc; unended = λ e. absurd cc; orphaned = λ e. absurd cc }
    of_code TooMany test = record { named = λ e. absurd cc; again = λ e f. absurd cc; unended = λ e. absurd cc; orphaned = λ e. absurd cc }
    of_code MissingPart test = record { named = λ e. absurd cc; again = λ e f. absurd cc; unended = λ e. absurd cc; orphaned = λ e. absurd cc }
    of_code BeginKindAtStart test = record { named = λ e. absurd cc; again = λ e f. absurd cc; unended = λ e. absurd cc; orphaned = λ e. absurd cc }
    of_code BadPolicyKind test = record { named = λ e. absurd cc; again = λ e f. absurd cc; unended = λ e. absurd cc; orphaned = λ e. absurd cc }
