-- How many of some edges are new.
use Rattle.std.proofs.Common.{◌≡◌, ℕ, ◌+◌, ◌<◌, Bool, true, false, ◌&&◌, ◌||◌, ◌==◌, List, [], ◌∷◌, ◌++◌, length, take, drop, get_or, refl, sym, ap, ◌∙◌, if◌then◌else◌, arith, length-append}
use Rattle.std.specs.List.{All, list_any}
use Rattle.std.proofs.lemmas.Bool.{eqb-true, and_parts, and_right, false_from_ne_true}
use Rattle.std.proofs.lemmas.List.{take-append-drop}
use Rattle.std.proofs.lemmas.List.Folds.{list_any-append, list_any_none}
use Rattle.std.proofs.lemmas.List.Sums.{fold_more}
use Rattle.acta_table.specs.declared.dep.Edge.{Edge}
use Rattle.acta_table.specs.Dependencies.{code_of}
use Rattle.acta_table.specs.Edges.{same_edge, is_among, with_edge, formed}

or-false : (a : Bool) → (a || false) ≡ a
or-false true = refl
or-false false = refl

or-or : (a b c : Bool) → ((a || b) || c) ≡ (a || (b || c))
or-or true b c = refl
or-or false b c = refl

-- equal edges are members of the same lists
same-among : (es : List Edge) (e f : Edge) → same_edge e f ≡ true → is_among es e ≡ is_among es f
same-among es e f h =
    let ends = and_parts ((code_of e.kind == code_of f.kind) && (e.j.0 == f.j.0)) (e.i.0 == f.i.0) h in
    let begins = and_parts (code_of e.kind == code_of f.kind) (e.j.0 == f.j.0) ends.0 in
    let kind : code_of e.kind ≡ code_of f.kind = eqb-true _ _ begins.0 in
    let j : e.j.0 ≡ f.j.0 = eqb-true _ _ begins.1 in
    let i : e.i.0 ≡ f.i.0 = eqb-true _ _ ends.1 in
    λ k. list_any (λ (g : Edge). (kind k == code_of g.kind) && (j k == g.j.0) && (i k == g.i.0)) es

named-by : (es : List Edge) (f e : Edge) (same : Bool) → same_edge e f ≡ same → is_among es f ≡ true → is_among es e ≡ (is_among es e || same)
named-by es f e true is known =
    let here : is_among es e ≡ true = same-among es e f is ∙ known in
    here ∙ sym (ap (λ b. b || true) here)
named-by es f e false is known = sym (or-false (is_among es e))

among-with-by : (es : List Edge) (f e : Edge) (known : Bool) → is_among es f ≡ known → is_among (if known then es else es ++ f ∷ []) e ≡ (is_among es e || same_edge e f)
among-with-by es f e true known = named-by es f e (same_edge e f) refl known
among-with-by es f e false known = list_any-append (same_edge e) es (f ∷ []) ∙ ap (λ b. is_among es e || b) (or-false (same_edge e f))

-- an edge is in force after forming if it was before or is among those formed
pub among_formed : (es more : List Edge) (e : Edge) → is_among (formed es more) e ≡ (is_among es e || is_among more e)
among_formed es [] e = sym (or-false (is_among es e))
among_formed es (f ∷ fs) e =
    among_formed (with_edge es f) fs e
    ∙ ap (λ b. b || is_among fs e) (among-with-by es f e (is_among es f) refl)
    ∙ or-or (is_among es e) (same_edge e f) (is_among fs e)

length-with : (es : List Edge) (e : Edge) (known : Bool) → length (if known then es else es ++ e ∷ []) ≡ length es + (if known then 0 else 1)
length-with es e true = omega arith
length-with es e false = rw length-append (omega arith)

-- one more edge counts if it is neither in force nor listed before
count-next : (es more : List Edge) (k : ℕ) (d : Edge) → k < length more → (known : Bool) → (is_among es (get_or more k d) || is_among (take k more) (get_or more k d)) ≡ known → length (formed es (take (k + 1) more)) ≡ length (formed es (take k more)) + (if known then 0 else 1)
count-next es more k d h known is =
    let e : Edge = get_or more k d in
    let before : List Edge = formed es (take k more) in
    ap (λ (xs : List Edge). length xs) (fold_more with_edge es more k d h)
    ∙ length-with before e (is_among before e)
    ∙ ap (λ b. length before + (if b then 0 else 1)) (among_formed es (take k more) e ∙ is)

pub count-new : (es more : List Edge) (k : ℕ) (d : Edge) → k < length more → is_among es (get_or more k d) ≡ false → is_among (take k more) (get_or more k d) ≡ false → length (formed es (take (k + 1) more)) ≡ length (formed es (take k more)) + 1
count-new es more k d h new unnamed = count-next es more k d h false (λ i. new i || unnamed i)

pub count-known : (es more : List Edge) (k : ℕ) (d : Edge) → k < length more → is_among es (get_or more k d) ≡ true → length (formed es (take (k + 1) more)) ≡ length (formed es (take k more))
count-known es more k d h known =
    let all = count-next es more k d h true (ap (λ b. b || is_among (take k more) (get_or more k d)) known) in
    omega arith

pub count-named : (es more : List Edge) (k : ℕ) (d : Edge) → k < length more → is_among es (get_or more k d) ≡ false → is_among (take k more) (get_or more k d) ≡ true → length (formed es (take (k + 1) more)) ≡ length (formed es (take k more))
count-named es more k d h new named =
    let all = count-next es more k d h true (λ i. new i || named i) in
    omega arith

apart : (e f : Edge) → f.i.0 < e.i.0 → same_edge e f ≡ false
apart e f lower =
    and_right ((code_of e.kind == code_of f.kind) && (e.j.0 == f.j.0)) (e.i.0 == f.i.0)
    (false_from_ne_true (e.i.0 == f.i.0) (λ h. let same : e.i.0 ≡ f.i.0 = eqb-true _ _ h in absurd (omega arith)))

-- an edge is not among edges with a lower `i`
pub none_named : (es : List Edge) (e : Edge) → All (λ f. f.i.0 < e.i.0) es → is_among es e ≡ false
none_named es e lower = list_any_none (same_edge e) es (λ k d l. apart e (get_or es k d) (lower k d l))

-- if all earlier edges have a lower `i`, only the others count
pub among-drop : (es : List Edge) (start : ℕ) (e : Edge) → All (λ f. f.i.0 < e.i.0) (take start es) → is_among es e ≡ is_among (drop start es) e
among-drop es start e lower =
    ap (λ (xs : List Edge). is_among xs e) (sym (take-append-drop start es))
    ∙ list_any-append (same_edge e) (take start es) (drop start es)
    ∙ ap (λ b. b || is_among (drop start es) e) (none_named (take start es) e lower)
