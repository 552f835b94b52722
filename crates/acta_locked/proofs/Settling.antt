-- The part of a seat, one more entry at a time.
use Rattle.std.proofs.Common.{◌≡◌, ℕ, zero, suc, ◌+◌, ◌<◌, ◌≤◌, inl, inr, List, [], ◌∷◌, ◌++◌, length, take, drop, get_or, refl, ap, ap₂, sym, ◌∙◌, subst, append-nil, append_assoc, arith}
use Rattle.std.specs.Prelude.{◌==◌, sum_by}
use Rattle.std.proofs.lemmas.Bool.Decides.{Decides-eqb, eqb_tells}
use Rattle.std.proofs.lemmas.List.{length-append, length-map, length-take-le, get_or_at, take-append-drop, take_more}
use Rattle.std.proofs.lemmas.List.Elements.{filter-append}
use Rattle.std.proofs.lemmas.List.Sums.{sum_by-cons}
use Rattle.acta_table.specs.declared.event.Event.{Event}
use Rattle.acta_table.specs.declared.model.Parts.{Parts}
use Rattle.acta_locked.specs.declared.book.Entry.{Entry}
use Rattle.acta_locked.specs.declared.worker.Report.{Report}
use Rattle.acta_locked.specs.Books.{Entries, IsRun, seat_part}
use Rattle.acta_locked.specs.Drives.{AreParts, IsDriven, IsPart}

-- one more entry of the part, or of another
one-more : {A : Type 0} (seat : ℕ) (es : List (Entry A)) (i : ℕ) (e : Entry A) → i < length es → e ≡ get_or es i e → seat_part seat (take (i + 1) es) ≡ seat_part seat (take i es) ++ seat_part seat (e ∷ [])
one-more {A} seat es i e lt at =
    ap (seat_part seat) (take_more es i e lt)
    ∙ filter-append (λ (x : Entry A). x.seat == seat) (take i es) (get_or es i e ∷ [])
    ∙ (λ j. seat_part seat (take i es) ++ seat_part seat (sym at j ∷ []))

alone : {A : Type 0} (seat : ℕ) (e : Entry A) → e.seat ≡ seat → seat_part seat (e ∷ []) ≡ e ∷ []
alone seat e mine = rw ((Decides-eqb e.seat seat).1 mine) refl

none : {A : Type 0} (seat : ℕ) (e : Entry A) → (e.seat ≡ seat → ⊥) → seat_part seat (e ∷ []) ≡ []
none seat e other = elim (eqb_tells e.seat seat) [ inl h ↦ absurd (other h.1) | inr h ↦ rw h.0 refl ]

pub part-mine : {A : Type 0} (seat : ℕ) (es report : List (Entry A)) (i next : ℕ) (e r : Entry A) → i < length es → e ≡ get_or es i e → e.seat ≡ seat → seat_part seat (take i es) ≡ take next report → next < length report → r ≡ get_or report next r → e ≡ r → seat_part seat (take (i + 1) es) ≡ take (next + 1) report
part-mine {A} seat es report i next e r lt at mine so room there same =
    one-more seat es i e lt at
    ∙ (λ j. so j ++ alone seat e mine j)
    ∙ (λ j. take next report ++ (same ∙ there) j ∷ [])
    ∙ sym (take_more report next r room)

pub part-other : {A : Type 0} (seat : ℕ) (es report : List (Entry A)) (i next : ℕ) (e : Entry A) → i < length es → e ≡ get_or es i e → (e.seat ≡ seat → ⊥) → seat_part seat (take i es) ≡ take next report → seat_part seat (take (i + 1) es) ≡ take next report
part-other seat es report i next e lt at other so =
    one-more seat es i e lt at
    ∙ (λ j. so j ++ none seat e other j)
    ∙ append-nil (take next report)

-- if a report is the part of the seat, the next entry of the seat is the next of the report
pub part-next : {A : Type 0} (seat : ℕ) (es report : List (Entry A)) (i next : ℕ) (e : Entry A) → i < length es → e ≡ get_or es i e → e.seat ≡ seat → seat_part seat (take i es) ≡ take next report → next ≤ length report → report ≡ seat_part seat es → (next < length report) × (e ≡ get_or report next e)
part-next {A} seat es report i next e lt at mine so within all =
    let front = take next report in
    let rest = seat_part seat (drop (i + 1) es) in
    let is : report ≡ front ++ (e ∷ rest) =
    all
    ∙ ap (seat_part seat) (sym (take-append-drop (i + 1) es))
    ∙ filter-append (λ (x : Entry A). x.seat == seat) (take (i + 1) es) (drop (i + 1) es)
    ∙ ap (λ (l : List (Entry A)). l ++ rest) (one-more seat es i e lt at ∙ (λ j. so j ++ alone seat e mine j))
    ∙ append_assoc front (e ∷ []) rest in
    let long : length front ≡ next = length-take-le next report within in
    let count : length report ≡ length front + suc (length rest) = ap (λ (l : List (Entry A)). length l) is ∙ length-append front (e ∷ rest) in
    (omega (arith, count, long), sym (get_or_at front e rest e next long) ∙ sym (ap (λ (l : List (Entry A)). get_or l next e) is))

-- there are as many reports as scripts
pub parts-lengths : {A : Type 0} (b : Entries A) (seat : ℕ) (ss : List (List (Event A))) (rs : List (Report A)) → AreParts b seat ss rs → length rs ≡ length ss
parts-lengths b seat [] [] h = refl
parts-lengths b seat [] (r ∷ rs) h = absurd h
parts-lengths b seat (s ∷ ss) [] h = absurd h
parts-lengths b seat (s ∷ ss) (r ∷ rs) h = ap suc (parts-lengths b (suc seat) ss rs h.1)

-- and each is the part of its seat
pub part-at : {A : Type 0} (b : Entries A) (seat : ℕ) (ss : List (List (Event A))) (rs : List (Report A)) (k n : ℕ) (s : List (Event A)) (r : Report A) → AreParts b seat ss rs → k < length ss → n ≡ seat + k → s ≡ get_or ss k s → r ≡ get_or rs k r → IsPart b n s r
part-at b seat [] rs k n s r h lt at is_s is_r = absurd (omega (arith, lt))
part-at b seat (x ∷ ss) [] k n s r h lt at is_s is_r = absurd h
part-at b seat (x ∷ ss) (y ∷ rs) zero n s r h lt at is_s is_r =
    let same : n ≡ seat = omega (arith, at) in
    rw (same, is_s, is_r) h.0
part-at b seat (x ∷ ss) (y ∷ rs) (suc k) n s r h lt at is_s is_r =
    part-at b (suc seat) ss rs k n s r h.1 (omega (arith, lt)) (omega (arith, at)) is_s is_r

-- reports that are the parts have as many entries as the scripts have events
pub parts-count : {A : Type 0} (b : Entries A) (seat : ℕ) (ss : List (List (Event A))) (rs : List (Report A)) → AreParts b seat ss rs → sum_by (λ (r : Report A). length r.entries) rs ≡ sum_by length ss
parts-count b seat [] [] h = refl
parts-count b seat [] (r ∷ rs) h = absurd h
parts-count b seat (s ∷ ss) [] h = absurd h
parts-count {A} b seat (s ∷ ss) (r ∷ rs) h =
    let one : length r.entries ≡ length s = ap length h.0.entries_are ∙ sym (length-map (seat_part seat b.entries) (λ (e : Entry A). e.event)) ∙ ap length h.0.events_are in
    sum_by-cons (λ (x : Report A). length x.entries) r rs ∙ ap₂ (λ x y. x + y) one (parts-count b (suc seat) ss rs h.1)
    ∙ sym (sum_by-cons (λ (x : List (Event A)). length x) s ss)

-- a driven run, from the checks made
pub is-driven : {A : Type 0} (m : Parts A) (scripts : List (List (Event A))) (book kept : Entries A) (reports shown : List (Report A)) (amount : ℕ)
    → book.model ≡ m → IsRun kept → kept ≡ book → length book.entries ≡ amount
    → amount ≡ sum_by (λ (r : Report A). length r.entries) reports → shown ≡ reports → AreParts book 1 scripts reports
    → IsDriven m scripts (record { book = book; reports = shown })
is-driven {A} m scripts book kept reports shown amount of run view counted total listed parts = record {
  model = of;
  run = subst IsRun view run;
  counted = counted ∙ total ∙ parts-count book 1 scripts reports parts;
  each = subst (λ (rs : List (Report A)). AreParts book 1 scripts rs) (sym listed) parts;
}
