-- Walking the edges of a transaction from the last to the first: the edges between do not count.
use Rattle.std.proofs.Common.{◌≡◌, ℕ, zero, suc, ◌+◌, ◌-◌, ◌<◌, ◌≤◌, Bool, true, false, ◌==◌, ◌||◌, List, [], ◌∷◌, ◌++◌, length, take, map, get_or, Option, Some, None, refl, sym, ap, ◌∙◌, arith, if◌then◌else◌, add-one, filter, min, append-nil}
use Rattle.std.specs.List.{position_from, list_any}
use Rattle.std.specs.Option.{option_or, option_map_or}
use Rattle.std.proofs.lemmas.Bool.{eq-eqb, true≢false}
use Rattle.std.proofs.lemmas.List.{take_more, get_or-map, length-map, take_all, get_or_default, length-take-le, map-append}
use Rattle.std.proofs.lemmas.List.Folds.{list_any-append}
use Rattle.std.proofs.lemmas.List.Elements.{filter-append}
use Rattle.std.proofs.Math.Bool.{or-false}
use Rattle.acta_table.specs.declared.dep.Edge.{Edge}
use Rattle.acta_table.specs.declared.dep.Dep.TheVariants.{Cd}
use Rattle.acta_table.specs.Numbered.{first_number}
use Rattle.acta_deps.specs.inside.Places.{latest}
use Rattle.acta_table.proofs.Smallest.{least_from}
use Rattle.acta_deps.proofs.SmallestSame.{least_last}
use Rattle.acta_deps.proofs.LastPlaces.{latest_le, at_latest}

abbrev pub blank : Edge
blank = record { kind = Cd; j = record { 0 = 0 }; i = record { 0 = 0 } }

one_more : (edges : List Edge) (n : ℕ) → n < length edges → take (suc n) edges ≡ take n edges ++ get_or edges n blank ∷ []
one_more edges n h = ap (λ m. take m edges) (sym (add-one n)) ∙ take_more edges n blank h

-- an edge that passes has the key, so an edge with another key does not pass
fails-by : (pass : Edge → Bool) (key : Edge → ℕ) (t : ℕ) (e : Edge) → (pass e ≡ true → key e ≡ t) → (key e == t) ≡ false → (b : Bool) → pass e ≡ b → pass e ≡ false
fails-by pass key t e needs other true is = absurd (true≢false (sym (eq-eqb (key e) t (needs is)) ∙ other))
fails-by pass key t e needs other false is = is

skipped-by : {X : Type 0} (F : List Edge → X) (pass : Edge → Bool) (key : Edge → ℕ) (t : ℕ)
    → ((xs : List Edge) (e : Edge) → pass e ≡ false → F (xs ++ e ∷ []) ≡ F xs)
    → ((e : Edge) → pass e ≡ true → key e ≡ t)
    → (edges : List Edge) (n : ℕ) → n < length edges → (b : Bool) → (get_or (map key edges) n 0 == t) ≡ b
    → F (take n edges) ≡ F (take (latest (map key edges) t n) edges)
    → F (take (suc n) edges) ≡ F (take (if b then suc n else latest (map key edges) t n) edges)
skipped-by F pass key t drops needs edges n h true is before = refl
skipped-by F pass key t drops needs edges n h false is before =
    let e : Edge = get_or edges n blank in
    let other : (key e == t) ≡ false = ap (λ k. k == t) (sym (get_or-map key edges n blank 0 h)) ∙ is in
    ap (λ (xs : List Edge). F xs) (one_more edges n h) ∙ drops (take n edges) e (fails-by pass key t e (needs e) other (pass e) refl) ∙ before

-- the edges after the last one of t add nothing
pub skipped : {X : Type 0} (F : List Edge → X) (pass : Edge → Bool) (key : Edge → ℕ) (t : ℕ)
    → ((xs : List Edge) (e : Edge) → pass e ≡ false → F (xs ++ e ∷ []) ≡ F xs)
    → ((e : Edge) → pass e ≡ true → key e ≡ t)
    → (edges : List Edge) (n : ℕ) → n ≤ length edges → F (take n edges) ≡ F (take (latest (map key edges) t n) edges)
skipped F pass key t drops needs edges zero h = refl
skipped F pass key t drops needs edges (suc n) h =
    skipped-by F pass key t drops needs edges n (omega arith) (get_or (map key edges) n 0 == t) refl (skipped F pass key t drops needs edges n (omega arith))

-- from all edges to the last of t
pub skipped_all : {X : Type 0} (F : List Edge → X) (pass : Edge → Bool) (key : Edge → ℕ) (t : ℕ)
    → ((xs : List Edge) (e : Edge) → pass e ≡ false → F (xs ++ e ∷ []) ≡ F xs)
    → ((e : Edge) → pass e ≡ true → key e ≡ t)
    → (edges : List Edge) → F (take (latest (map key edges) t (length (map key edges))) edges) ≡ F edges
skipped_all F pass key t drops needs edges =
    ap (λ n. F (take (latest (map key edges) t n) edges)) (length-map edges key)
    ∙ sym (skipped F pass key t drops needs edges (length edges) (omega arith))
    ∙ ap (λ (xs : List Edge). F xs) (take_all (length edges) edges (omega arith))

-- the edges up to one of t: those up to the previous one of t, and this one
pub stepped : {X : Type 0} (F : List Edge → X) (pass : Edge → Bool) (key : Edge → ℕ) (t : ℕ)
    → ((xs : List Edge) (e : Edge) → pass e ≡ false → F (xs ++ e ∷ []) ≡ F xs)
    → ((e : Edge) → pass e ≡ true → key e ≡ t)
    → (edges : List Edge) (m next : ℕ) → m < length edges → get_or (map key edges) m 0 ≡ t → next ≡ latest (map key edges) (get_or (map key edges) m 0) m
    → F (take m edges) ≡ F (take next edges)
stepped F pass key t drops needs edges m next h at is =
    skipped F pass key t drops needs edges m (omega arith)
    ∙ ap (λ n. F (take n edges)) (ap (λ u. latest (map key edges) u m) (sym at) ∙ sym is)

first-more-by : (pass : Edge → Bool) (k : ℕ) (xs : List Edge) (e : Edge) (b : Bool) → (rest : position_from pass (k + 1) (xs ++ e ∷ []) ≡ option_or (position_from pass (k + 1) xs) (if pass e then Some (k + 1 + length xs) else None))
    → (if b then Some k else position_from pass (k + 1) (xs ++ e ∷ [])) ≡ option_or (if b then Some k else position_from pass (k + 1) xs) (if pass e then Some (k + suc (length xs)) else None)
first-more-by pass k xs e true rest = refl
first-more-by pass k xs e false rest = rest ∙ ap (λ n. option_or (position_from pass (k + 1) xs) (if pass e then Some n else None)) (omega arith)

-- the first that passes, with one more edge
first_more : (pass : Edge → Bool) (k : ℕ) (xs : List Edge) (e : Edge) → position_from pass k (xs ++ e ∷ []) ≡ option_or (position_from pass k xs) (if pass e then Some (k + length xs) else None)
first_more pass k [] e = ap (λ n. if pass e then Some n else None) (omega arith)
first_more pass k (x ∷ xs) e = first-more-by pass k xs e (pass x) (first_more pass (k + 1) xs e)

or_none : {X : Type 0} (o : Option X) → option_or o None ≡ o
or_none None = refl
or_none (Some x) = refl

pub first_drops : (pass : Edge → Bool) (xs : List Edge) (e : Edge) → pass e ≡ false → first_number pass (xs ++ e ∷ []) ≡ first_number pass xs
first_drops pass xs e fails = first_more pass 1 xs e ∙ ap (λ b. option_or (first_number pass xs) (if b then Some (1 + length xs) else None)) fails ∙ or_none (first_number pass xs)

or_kept : (o first : Option ℕ) (b : Bool) (n : ℕ) → option_or (option_or o (if b then Some n else None)) first ≡ option_or o (if b then Some n else first)
or_kept None first true n = refl
or_kept None first false n = refl
or_kept (Some x) first b n = refl

-- a last place is within the list, and t is there
pub walk_within : (ps : List ℕ) (t n place : ℕ) → place ≡ latest ps t n → place ≤ n
walk_within ps t n place is = let h : latest ps t n ≤ n = latest_le ps t n in omega arith

pub walk_on : (ps : List ℕ) (t n place : ℕ) → place ≡ latest ps t n → 0 < place → get_or ps (place - 1) 0 ≡ t
walk_on ps t n place is some =
    let h : place ≡ suc (place - 1) = omega arith in
    at_latest ps t n (place - 1) (sym is ∙ h)

-- the edges up to a place: those before it, and the one that is read there
up_to : (es : List Edge) (place : ℕ) (d : Edge) → 0 < place → place ≤ length es → take place es ≡ take (place - 1) es ++ get_or es (place - 1) d ∷ []
up_to es place d some within =
    let h : place ≡ suc (place - 1) = omega arith in
    ap (λ n. take n es) h ∙ one_more es (place - 1) (omega arith) ∙ ap (λ x. take (place - 1) es ++ x ∷ []) (get_or_default es (place - 1) blank d (omega arith))

pub first_start : (pass : Edge → Bool) (key : Edge → ℕ) (t : ℕ) → ((e : Edge) → pass e ≡ true → key e ≡ t) → (es : List Edge) (ps : List ℕ) → ps ≡ map key es → (place : ℕ) → place ≡ latest ps t (length ps) → option_or (first_number pass (take place es)) None ≡ first_number pass es
first_start pass key t needs es ps all place is =
    or_none (first_number pass (take place es))
    ∙ ap (λ n. first_number pass (take n es)) (is ∙ ap (λ (xs : List ℕ). latest xs t (length xs)) all)
    ∙ skipped_all (first_number pass) pass key t (first_drops pass) needs es

pub first_step : (pass : Edge → Bool) (key : Edge → ℕ) (t : ℕ) → ((e : Edge) → pass e ≡ true → key e ≡ t) → (es : List Edge) (ps : List ℕ) → ps ≡ map key es → (place next : ℕ) (d : Edge) (here : Bool) (first : Option ℕ) → 0 < place → place ≤ length es → here ≡ pass (get_or es (place - 1) d) → get_or ps (place - 1) 0 ≡ t → next ≡ latest ps (get_or ps (place - 1) 0) (place - 1) → option_or (first_number pass (take next es)) (if here then Some place else first) ≡ option_or (first_number pass (take place es)) first
first_step pass key t needs es ps all place next d here first some within test at is =
    let m : ℕ = place - 1 in
    let e : Edge = get_or es m d in
    let long : length (take m es) ≡ m = length-take-le m es (omega arith) in
    let number : place ≡ 1 + length (take m es) = omega arith in
    let skip : first_number pass (take m es) ≡ first_number pass (take next es) = stepped (first_number pass) pass key t (first_drops pass) needs es m next (omega arith) (ap (λ (xs : List ℕ). get_or xs m 0) (sym all) ∙ at) (is ∙ ap (λ (xs : List ℕ). latest xs (get_or xs m 0) m) all) in
    sym (
    ap (λ (xs : List Edge). option_or (first_number pass xs) first) (up_to es place d some within)
    ∙ ap (λ o. option_or o first) (first_more pass 1 (take m es) e)
    ∙ or_kept (first_number pass (take m es)) first (pass e) (1 + length (take m es))
    ∙ (λ i. option_or (skip i) (if sym test i then Some (sym number i) else first))
    )

-- Whether one passes

pub any_drops : (pass : Edge → Bool) (xs : List Edge) (e : Edge) → pass e ≡ false → list_any pass (xs ++ e ∷ []) ≡ list_any pass xs
any_drops pass xs e fails = list_any-append pass xs (e ∷ []) ∙ (λ i. list_any pass xs || (fails i || false)) ∙ or-false (list_any pass xs)

pub any_start : (pass : Edge → Bool) (key : Edge → ℕ) (t : ℕ) → ((e : Edge) → pass e ≡ true → key e ≡ t) → (es : List Edge) (ps : List ℕ) → ps ≡ map key es → (place : ℕ) → place ≡ latest ps t (length ps) → list_any pass (take place es) ≡ list_any pass es
any_start pass key t needs es ps all place is =
    ap (λ n. list_any pass (take n es)) (is ∙ ap (λ (xs : List ℕ). latest xs t (length xs)) all)
    ∙ skipped_all (list_any pass) pass key t (any_drops pass) needs es

pub any_step : (pass : Edge → Bool) (key : Edge → ℕ) (t : ℕ) → ((e : Edge) → pass e ≡ true → key e ≡ t) → (es : List Edge) (ps : List ℕ) → ps ≡ map key es → (place next : ℕ) (d : Edge) → 0 < place → place ≤ length es → pass (get_or es (place - 1) d) ≡ false → get_or ps (place - 1) 0 ≡ t → next ≡ latest ps (get_or ps (place - 1) 0) (place - 1) → list_any pass (take next es) ≡ list_any pass (take place es)
any_step pass key t needs es ps all place next d some within fails at is =
    let m : ℕ = place - 1 in
    let skip : list_any pass (take m es) ≡ list_any pass (take next es) = stepped (list_any pass) pass key t (any_drops pass) needs es m next (omega arith) (ap (λ (xs : List ℕ). get_or xs m 0) (sym all) ∙ at) (is ∙ ap (λ (xs : List ℕ). latest xs (get_or xs m 0) m) all) in
    sym (ap (λ (xs : List Edge). list_any pass xs) (up_to es place d some within) ∙ any_drops pass (take m es) (get_or es m d) fails ∙ skip)

-- The least of those that pass

abbrev pub least_of : (Edge → Bool) → Option ℕ → List Edge → Option ℕ
least_of pass o xs = least_from o (map (λ (e : Edge). e.j.0) (filter pass xs))

least-more-by : (pass : Edge → Bool) (o : Option ℕ) (xs : List Edge) (e : Edge) (b : Bool) → least_from o (map (λ (x : Edge). x.j.0) (filter pass xs) ++ map (λ (x : Edge). x.j.0) (if b then e ∷ [] else [])) ≡ least_of pass (if b then Some (option_map_or (min e.j.0) o e.j.0) else o) xs
least-more-by pass o xs e true = least_last o (map (λ (x : Edge). x.j.0) (filter pass xs)) e.j.0
least-more-by pass o xs e false = ap (λ (ns : List ℕ). least_from o ns) (append-nil (map (λ (x : Edge). x.j.0) (filter pass xs)))

least_more : (pass : Edge → Bool) (o : Option ℕ) (xs : List Edge) (e : Edge) → least_of pass o (xs ++ e ∷ []) ≡ least_of pass (if pass e then Some (option_map_or (min e.j.0) o e.j.0) else o) xs
least_more pass o xs e =
    ap (λ (ys : List Edge). least_from o (map (λ (x : Edge). x.j.0) ys)) (filter-append pass xs (e ∷ []))
    ∙ ap (λ (ns : List ℕ). least_from o ns) (map-append (λ (x : Edge). x.j.0) (filter pass xs) (filter pass (e ∷ [])))
    ∙ least-more-by pass o xs e (pass e)

least_drops : (pass : Edge → Bool) (o : Option ℕ) (xs : List Edge) (e : Edge) → pass e ≡ false → least_of pass o (xs ++ e ∷ []) ≡ least_of pass o xs
least_drops pass o xs e fails = least_more pass o xs e ∙ ap (λ b. least_of pass (if b then Some (option_map_or (min e.j.0) o e.j.0) else o) xs) fails

pub least_start : (pass : Edge → Bool) (key : Edge → ℕ) (t : ℕ) → ((e : Edge) → pass e ≡ true → key e ≡ t) → (es : List Edge) (ps : List ℕ) → ps ≡ map key es → (place : ℕ) (o : Option ℕ) → place ≡ latest ps t (length ps) → least_of pass o (take place es) ≡ least_of pass o es
least_start pass key t needs es ps all place o is =
    ap (λ n. least_of pass o (take n es)) (is ∙ ap (λ (xs : List ℕ). latest xs t (length xs)) all)
    ∙ skipped_all (least_of pass o) pass key t (least_drops pass o) needs es

pub least_step : (pass : Edge → Bool) (key : Edge → ℕ) (t : ℕ) → ((e : Edge) → pass e ≡ true → key e ≡ t) → (es : List Edge) (ps : List ℕ) → ps ≡ map key es → (place next : ℕ) (d : Edge) (o p : Option ℕ) → 0 < place → place ≤ length es → p ≡ (if pass (get_or es (place - 1) d) then Some (option_map_or (min (get_or es (place - 1) d).j.0) o (get_or es (place - 1) d).j.0) else o) → get_or ps (place - 1) 0 ≡ t → next ≡ latest ps (get_or ps (place - 1) 0) (place - 1) → least_of pass p (take next es) ≡ least_of pass o (take place es)
least_step pass key t needs es ps all place next d o p some within test at is =
    let m : ℕ = place - 1 in
    let skip : least_of pass p (take m es) ≡ least_of pass p (take next es) = stepped (least_of pass p) pass key t (least_drops pass p) needs es m next (omega arith) (ap (λ (xs : List ℕ). get_or xs m 0) (sym all) ∙ at) (is ∙ ap (λ (xs : List ℕ). latest xs (get_or xs m 0) m) all) in
    sym (ap (λ (xs : List Edge). least_of pass o xs) (up_to es place d some within) ∙ least_more pass o (take m es) (get_or es m d) ∙ ap (λ q. least_of pass q (take m es)) (sym test) ∙ skip)

pub or_assoc : {X : Type 0} (a b c : Option X) → option_or a (option_or b c) ≡ option_or (option_or a b) c
or_assoc None b c = refl
or_assoc (Some x) b c = refl
