-- The lines of a text read so far, the next one, and its diagnostic.
use Rattle.std.proofs.Common.{◌≡◌, ℕ, zero, suc, ◌+◌, ◌-◌, Bool, true, false, cond, List, [], ◌∷◌, ◌++◌, length, take, drop, refl, sym, ap, ◌∙◌, arith, true≢false}
use Rattle.std.specs.Prelude.{Option, Some, None, is_some, option_and_then, option_map, slice_get, unwrap_or}
use Rattle.std.specs.Option.{option_or}
use Rattle.acta_words.specs.Text.{lines_of, words_of}
use Rattle.acta_lang.specs.declared.draft.ClassDraft.{ClassDraft}
use Rattle.acta_lang.specs.declared.fault.Code.{Code}
use Rattle.acta_lang.specs.declared.fault.Code.TheVariants.{NotAscii, BadWord, BadName, DuplicateName, WrongPlace, BadNumber, TooMany, MissingEnd, MissingPart, BeginKindAtStart, HeirWithoutSpawn, BadPolicyKind}
use Rattle.acta_lang.specs.declared.form.Form.{Form}
use Rattle.acta_lang.specs.declared.form.Form.TheVariants as form
use Rattle.acta_lang.specs.Diagnostics.{class_of, diagnostic_in, diagnostic_of, earlier_line, open_class}
use Rattle.acta_lang.specs.Drafts.{Draft, OpenClass, declared, extended_by}
use Rattle.acta_lang.specs.Faults.{is_class, is_object, wrong_place}
use Rattle.acta_lang.specs.Forms.{form_of, name_in}
use Rattle.acta_lang.specs.Lines.{ClassAt, begun, declares, first_line, last_class, part_line}
use Rattle.acta_lang.specs.Places.{place_of}
use Rattle.acta_lang.specs.inside.Noted.{IsNoted, Noted, class_noted, current_at, current_line, diagnosis, earlier_noted, line_of}
use Rattle.acta_lang.specs.inside.Abstraction.{current_shown}
use Rattle.acta_lang.proofs.Turns.{fold-push}

pub mapped-some : {X Y Z : Type 0} (t : Z → Y) (f : X → Y) (o : Option X) (z : Z) → option_map t (Some z) ≡ option_map f o → (x : X) × (o ≡ Some x) × (t z ≡ f x)
mapped-some t f None z e = absurd cc
mapped-some t f (Some x) z e = (x, refl, cc)

pub mapped-none : {X Y Z : Type 0} (t : Z → Y) (f : X → Y) (o : Option X) → option_map t None ≡ option_map f o → o ≡ None
mapped-none t f None e = refl
mapped-none t f (Some x) e = absurd cc

-- the next of some elements, after the first n
next-suc : {X : Type 0} (n : ℕ) (xs : List X) (x : X) (rest : List X) → drop n xs ≡ x ∷ rest
    → (slice_get xs n ≡ Some x) × ((take (suc n) xs ≡ take n xs ++ x ∷ []) × ((drop (suc n) xs ≡ rest) × (length (take n xs) ≡ n)))
next-suc zero [] x rest e = absurd cc
next-suc (suc n) [] x rest e = absurd cc
next-suc zero (y ∷ ys) x rest e = (cc, (cc, (cc, refl)))
next-suc (suc n) (y ∷ ys) x rest e =
    let below = next-suc n ys x rest e in
    (below.0, (ap (λ (zs : List _). y ∷ zs) below.1.0, (below.1.1.0, ap suc below.1.1.1)))

pub next : {X : Type 0} (n : ℕ) (xs : List X) (x : X) (rest : List X) → drop n xs ≡ x ∷ rest
    → (slice_get xs n ≡ Some x) × ((take (n + 1) xs ≡ take n xs ++ x ∷ []) × ((drop (n + 1) xs ≡ rest) × (length (take n xs) ≡ n)))
next n xs x rest e =
    let up : n + 1 ≡ suc n = omega arith in
    let it = next-suc n xs x rest e in
    (it.0, (ap (λ k. take k xs) up ∙ it.1.0, (ap (λ k. drop k xs) up ∙ it.1.1.0, it.1.1.1)))

-- what the lines declare, with the next
pub declares-next : {A : Type 0} (n : ℕ) (lines : List (List ℕ)) (line : List ℕ) (rest : List (List ℕ)) → drop n lines ≡ line ∷ rest
    → declared {A = A} (take (n + 1) lines) ≡ extended_by (declared (take n lines)) line
declares-next n lines line rest e =
    ap declared (next n lines line rest e).1.0 ∙ fold-push extended_by _ (take n lines) line

-- ---- by the notes

or-none : {X : Type 0} (o : Option X) → option_or o None ≡ o
or-none None = refl
or-none (Some x) = refl

-- the open class, under the name that the draft has
pub one_name : {A : Type 0} (o : Option (ClassDraft A)) → option_map (λ (c : OpenClass). c.name) (option_map current_shown o) ≡ option_map (λ (c : ClassAt). c.name) (option_map current_at o)
one_name None = refl
one_name (Some c) = refl

is_open : (before : List (List ℕ)) (o : Option ClassAt) (p : Option OpenClass) → ((c : ClassAt) → o ≡ Some c → c ≡ last_class c.name before) → option_map (λ (c : OpenClass). c.name) p ≡ option_map (λ (c : ClassAt). c.name) o
    → o ≡ option_map (λ (c : OpenClass). last_class c.name before) p
is_open before None None known same = refl
is_open before None (Some c) known same = absurd cc
is_open before (Some c) None known same = absurd cc
is_open before (Some c) (Some d) known same =
    let name : c.name ≡ d.name = cc in
    ap (λ (k : ClassAt). Some k) (known c refl) ∙ ap (λ (word : List ℕ). Some (last_class word before)) name

module _ {A : Type 0} (before : List (List ℕ)) (d : Draft A) (x : Noted) (is : d ≡ declared before) (h : IsNoted before x)
    (same : option_map (λ (c : OpenClass). c.name) d.current ≡ option_map (λ (c : ClassAt). c.name) x.current) where
  noted-open : x.current ≡ open_class A before
  noted-open = is_open before x.current d.current h.current same ∙ ap (λ (e : Draft A). option_map (λ (c : OpenClass). last_class c.name before) e.current) is

  noted-name : (words : List (List ℕ)) (parsed : Form) → earlier_noted x words parsed DuplicateName ≡ earlier_line A before words parsed DuplicateName
  noted-name words parsed = of_test (is_class parsed)
    where
      of_test : (b : Bool) → cond b (option_or (line_of (name_in words) x.classes) (current_line (name_in words) x.current)) (line_of (name_in words) x.objects)
          ≡ first_line (declares (cond b is_class is_object) (name_in words)) before
      of_test true = h.classes (name_in words)
      of_test false = h.objects (name_in words)

  noted-earlier : (words : List (List ℕ)) (parsed : Form) (code : Code) → earlier_noted x words parsed code ≡ earlier_line A before words parsed code
  noted-earlier words parsed DuplicateName = noted-name words parsed
  noted-earlier words parsed WrongPlace = ap (option_and_then (λ (c : ClassAt). part_line parsed c.parts)) noted-open
  noted-earlier words parsed NotAscii = refl
  noted-earlier words parsed BadWord = refl
  noted-earlier words parsed BadName = refl
  noted-earlier words parsed BadNumber = refl
  noted-earlier words parsed TooMany = refl
  noted-earlier words parsed MissingEnd = refl
  noted-earlier words parsed MissingPart = refl
  noted-earlier words parsed BeginKindAtStart = refl
  noted-earlier words parsed HeirWithoutSpawn = refl
  noted-earlier words parsed BadPolicyKind = refl

  noted-begun : (words : List (List ℕ)) (parsed : Form) (n : ℕ) → n ≡ length before + 1 → class_noted x n words parsed MissingEnd ≡ class_of A before words parsed MissingEnd
  noted-begun words parsed n counts = of_test (is_class parsed)
    where
      of_test : (b : Bool) → cond b (Some (begun (name_in words) n)) x.current ≡ cond b (Some (begun (name_in words) (length before + 1))) (open_class A before)
      of_test true = ap (λ k. Some (begun (name_in words) k)) counts
      of_test false = noted-open

  noted-class : (words : List (List ℕ)) (parsed : Form) (n : ℕ) (code : Code) → n ≡ length before + 1 → class_noted x n words parsed code ≡ class_of A before words parsed code
  noted-class words parsed n MissingEnd counts = noted-begun words parsed n counts
  noted-class words parsed n NotAscii counts = noted-open
  noted-class words parsed n BadWord counts = noted-open
  noted-class words parsed n BadName counts = noted-open
  noted-class words parsed n DuplicateName counts = noted-open
  noted-class words parsed n WrongPlace counts = noted-open
  noted-class words parsed n BadNumber counts = noted-open
  noted-class words parsed n TooMany counts = noted-open
  noted-class words parsed n MissingPart counts = noted-open
  noted-class words parsed n BeginKindAtStart counts = noted-open
  noted-class words parsed n HeirWithoutSpawn counts = noted-open
  noted-class words parsed n BadPolicyKind counts = noted-open

  diagnosis-is : (n : ℕ) (line : List ℕ) (code : Code) → n ≡ length before + 1 → diagnosis d x n line code ≡ diagnostic_of A before line code
  diagnosis-is n line code counts = λ i. record {
    line = counts i;
    code = code;
    place = (place_of (is i) line (words_of line) (form_of (words_of line)) code).0;
    expected = (place_of (is i) line (words_of line) (form_of (words_of line)) code).1;
    earlier = noted-earlier (words_of line) (form_of (words_of line)) code i;
    class = noted-class (words_of line) (form_of (words_of line)) n code counts i;
  }

-- the diagnostic of the next line is that of its fault in the text
pub at_line : {A : Type 0} (text : List ℕ) (n : ℕ) (d : Draft A) (x : Noted) (line : List ℕ) (rest : List (List ℕ)) (code : Code) → d ≡ declared (take n (lines_of text)) → IsNoted (take n (lines_of text)) x
    → option_map (λ (c : OpenClass). c.name) d.current ≡ option_map (λ (c : ClassAt). c.name) x.current → drop n (lines_of text) ≡ line ∷ rest
    → diagnosis d x (n + 1) line code ≡ diagnostic_in A text (record { line = n + 1; code = code })
at_line {A} text n d x line rest code is h same left =
    let it = next n (lines_of text) line rest left in
    let back : n ≡ n + 1 - 1 = omega arith in
    let counts : n + 1 ≡ length (take n (lines_of text)) + 1 = ap (λ k. k + 1) (sym it.1.1.1) in
    let found : line ≡ unwrap_or (slice_get (lines_of text) n) [] = sym (ap (λ o. unwrap_or o []) it.0) in
    diagnosis-is (take n (lines_of text)) d x is h same (n + 1) line code counts
    ∙ ap (λ l. diagnostic_of A (take n (lines_of text)) l code) found
    ∙ ap (λ k. diagnostic_of A (take k (lines_of text)) (unwrap_or (slice_get (lines_of text) k) []) code) back

-- when a line without a fault begins a class, none is open
pub none_open : {A : Type 0} (d : Draft A) (o : Option (ClassDraft A)) (parsed : Form) → option_map current_shown o ≡ d.current → wrong_place d parsed ≡ false → is_class parsed ≡ true → option_map current_at o ≡ None
unfolding wrong_place
none_open d o form.Class same fits class = of_open o (ap (λ (p : Option OpenClass). is_some p) same ∙ fits)
  where
    of_open : {A : Type 0} (o : Option (ClassDraft A)) → is_some (option_map current_shown o) ≡ false → option_map current_at o ≡ None
    of_open None fits = refl
    of_open (Some c) fits = absurd (true≢false fits)
none_open d o form.Blank same fits class = absurd (true≢false (sym class))
none_open d o form.Register same fits class = absurd (true≢false (sym class))
none_open d o form.Counter same fits class = absurd (true≢false (sym class))
none_open d o form.Elements same fits class = absurd (true≢false (sym class))
none_open d o (form.Starts s) same fits class = absurd (true≢false (sym class))
none_open d o (form.May s) same fits class = absurd (true≢false (sym class))
none_open d o (form.Scope s) same fits class = absurd (true≢false (sym class))
none_open d o (form.Policy s) same fits class = absurd (true≢false (sym class))
none_open d o (form.Commit s) same fits class = absurd (true≢false (sym class))
none_open d o (form.Delegation s) same fits class = absurd (true≢false (sym class))
none_open d o (form.Spawn s) same fits class = absurd (true≢false (sym class))
none_open d o (form.Split s) same fits class = absurd (true≢false (sym class))
none_open d o form.End same fits class = absurd (true≢false (sym class))
none_open d o form.Unknown same fits class = absurd (true≢false (sym class))
