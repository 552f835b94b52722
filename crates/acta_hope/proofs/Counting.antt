-- If there were more edges in force before, there are as many after some edges are formed.
use Rattle.std.proofs.Common.{◌≡◌, ◌≤◌, ◌+◌, suc, Bool, true, false, ◌==◌, ◌&&◌, ◌||◌, List, [], ◌∷◌, ◌++◌, length, refl, sym, ap, ◌∙◌, inl, inr, ◌⊎◌, eq-eqb, eqb-true, append_assoc, length-append, arith}
use Rattle.std.specs.Prelude.{if◌then◌else◌}
use Rattle.std.proofs.lemmas.Bool.{true≢false, and_parts, or_cases}
use Rattle.acta_table.specs.declared.dep.Edge.{Edge}
use Rattle.acta_table.specs.Dependencies.{code_of}
use Rattle.acta_table.specs.Edges.{same_kind, same_edge, is_among, with_edge, formed}
use Rattle.acta_hope.proofs.Growth.{edges-formed}

pub record AreSame (e f : Edge) : Type 0 where
  pub kind : code_of e.kind ≡ code_of f.kind
  pub j : e.j.0 ≡ f.j.0
  pub i : e.i.0 ≡ f.i.0

pub same-parts : (e f : Edge) → same_edge e f ≡ true → AreSame e f
same-parts e f is =
    let first = and_parts (same_kind e.kind f.kind && (e.j.0 == f.j.0)) (e.i.0 == f.i.0) is in
    let second = and_parts (same_kind e.kind f.kind) (e.j.0 == f.j.0) first.0 in
    record { kind = eqb-true (code_of e.kind) (code_of f.kind) second.0; j = eqb-true e.j.0 f.j.0 second.1; i = eqb-true e.i.0 f.i.0 first.1 }

same-made : (e f : Edge) → AreSame e f → same_edge e f ≡ true
same-made e f is = λ x. eq-eqb (code_of e.kind) (code_of f.kind) is.kind x && eq-eqb e.j.0 f.j.0 is.j x && eq-eqb e.i.0 f.i.0 is.i x

same-on : (e f g : Edge) → same_edge e f ≡ true → same_edge f g ≡ true → same_edge e g ≡ true
same-on e f g a b =
    let p = same-parts e f a in
    let q = same-parts f g b in
    same-made e g (record { kind = p.kind ∙ q.kind; j = p.j ∙ q.j; i = p.i ∙ q.i })

same-back : (e f : Edge) → same_edge e f ≡ true → same_edge f e ≡ true
same-back e f a = let p = same-parts e f a in same-made f e (record { kind = sym p.kind; j = sym p.j; i = sym p.i })

pub left-true : (a b : Bool) → a ≡ true → (a || b) ≡ true
left-true true b is = refl
left-true false b is = cc

pub right-true : (a b : Bool) → b ≡ true → (a || b) ≡ true
right-true true b is = refl
right-true false b is = is

-- an edge equal to one of them is among them
among-same : (es : List Edge) (f g : Edge) → same_edge g f ≡ true → is_among es f ≡ true → is_among es g ≡ true
among-same [] f g same is = is
among-same (x ∷ es) f g same is =
    elim (or_cases (same_edge f x) (is_among es f) is) [
      | inl here ↦ left-true (same_edge g x) (is_among es g) (same-on g f x same here)
      | inr there ↦ right-true (same_edge g x) (is_among es g) (among-same es f g same there)
    ]

among-before : (es : List Edge) (f g : Edge) → is_among es g ≡ true → is_among (es ++ f ∷ []) g ≡ true
among-before [] f g is = cc
among-before (x ∷ es) f g is =
    elim (or_cases (same_edge g x) (is_among es g) is) [
      | inl here ↦ left-true (same_edge g x) (is_among (es ++ f ∷ []) g) here
      | inr there ↦ right-true (same_edge g x) (is_among (es ++ f ∷ []) g) (among-before es f g there)
    ]

among-last : (es : List Edge) (f g : Edge) → same_edge g f ≡ true → is_among (es ++ f ∷ []) g ≡ true
among-last [] f g is = left-true (same_edge g f) false is
among-last (x ∷ es) f g is = right-true (same_edge g x) (is_among (es ++ f ∷ []) g) (among-last es f g is)

pub among-either : (es fs : List Edge) (g : Edge) → is_among (es ++ fs) g ≡ true → (is_among es g ≡ true) ⊎ (is_among fs g ≡ true)
among-either [] fs g is = inr is
among-either (x ∷ es) fs g is =
    elim (or_cases (same_edge g x) (is_among (es ++ fs) g) is) [
      | inl here ↦ inl (left-true (same_edge g x) (is_among es g) here)
      | inr there ↦ elim (among-either es fs g there) [ inl a ↦ inl (right-true (same_edge g x) (is_among es g) a) | inr b ↦ inr b ]
    ]

one : (f g : Edge) → is_among (f ∷ []) g ≡ true → same_edge g f ≡ true
one f g is = elim (or_cases (same_edge g f) false is) [ inl a ↦ a | inr b ↦ absurd (true≢false (sym b)) ]

-- all but the first equal one
abbrev rest : Edge → List Edge → List Edge
rest f [] = []
rest f (x ∷ xs) = if same_edge f x then xs else x ∷ rest f xs

rest-length : (f : Edge) (more : List Edge) → is_among more f ≡ true → suc (length (rest f more)) ≡ length more
rest-length f [] is = cc
rest-length f (x ∷ xs) is = of (same_edge f x) is (rest-length f xs)
  where
    of : (b : Bool) → (b || is_among xs f) ≡ true → (is_among xs f ≡ true → suc (length (rest f xs)) ≡ length xs) → suc (length (if b then xs else x ∷ rest f xs)) ≡ suc (length xs)
    of true is later = refl
    of false is later = ap suc (later is)

rest-among : (f g : Edge) (more : List Edge) → is_among more g ≡ true → (same_edge g f ≡ true) ⊎ (is_among (rest f more) g ≡ true)
rest-among f g [] is = cc
rest-among f g (x ∷ xs) is = of (same_edge f x) refl (rest-among f g xs)
  where
    of : (b : Bool) → same_edge f x ≡ b → (is_among xs g ≡ true → (same_edge g f ≡ true) ⊎ (is_among (rest f xs) g ≡ true)) → (same_edge g f ≡ true) ⊎ (is_among (if b then xs else x ∷ rest f xs) g ≡ true)
    of true same later =
        elim (or_cases (same_edge g x) (is_among xs g) is) [ inl here ↦ inl (same-on g x f here (same-back f x same)) | inr there ↦ inr there ]
    of false same later =
        elim (or_cases (same_edge g x) (is_among xs g) is) [
          | inl here ↦ inr (left-true (same_edge g x) (is_among (rest f xs) g) here)
          | inr there ↦ elim (later there) [ inl a ↦ inl a | inr b ↦ inr (right-true (same_edge g x) (is_among (rest f xs) g) b) ]
        ]

-- each of the second is among the first or these
abbrev Covers : List Edge → List Edge → List Edge → Type 0
Covers es more fs = (g : Edge) → is_among fs g ≡ true → (is_among es g ≡ true) ⊎ (is_among more g ≡ true)

longer : (es : List Edge) (f : Edge) → length (es ++ f ∷ []) ≡ length es + 1
longer es f = length-append es (f ∷ [])

grown : (due es more fs : List Edge) → Covers es more fs → length es + length more ≤ length fs → length (formed es due) ≤ length (formed fs due)
grown [] es more fs covers few = omega (arith, few)
grown (f ∷ due) es more fs covers few = of (is_among es f) (is_among fs f) refl refl (λ a b c. grown due a b c)
  where
    of : (a b : Bool) → is_among es f ≡ a → is_among fs f ≡ b → ((es more fs : List Edge) → Covers es more fs → length es + length more ≤ length fs → length (formed es due) ≤ length (formed fs due)) →
        length (formed (if a then es else es ++ f ∷ []) due) ≤ length (formed (if b then fs else fs ++ f ∷ []) due)
    of true true in_es in_fs later = later es more fs covers few
    of true false in_es in_fs later =
        later es more (fs ++ f ∷ [])
        (λ g is. elim (among-either fs (f ∷ []) g is) [ inl a ↦ covers g a | inr b ↦ inl (among-same es f g (one f g b) in_es) ])
        (let n = longer fs f in omega (arith, few, n))
    of false false in_es in_fs later =
        later (es ++ f ∷ []) more (fs ++ f ∷ [])
        (λ g is. elim (among-either fs (f ∷ []) g is) [
          | inl a ↦ elim (covers g a) [ inl c ↦ inl (among-before es f g c) | inr d ↦ inr d ]
          | inr b ↦ inl (among-last es f g (one f g b))
        ])
        (let n = longer fs f in let k = longer es f in omega (arith, few, n, k))
    of false true in_es in_fs later =
        elim (covers f in_fs) [
          | inl c ↦ absurd (true≢false (sym c ∙ in_es))
          | inr d ↦ later (es ++ f ∷ []) (rest f more) fs
              (λ g is. elim (covers g is) [
                | inl c ↦ inl (among-before es f g c)
                | inr k ↦ elim (rest-among f g more k) [ inl same ↦ inl (among-last es f g same) | inr r ↦ inr r ]
              ])
              (let n = rest-length f more d in let k = longer es f in omega (arith, few, n, k))
        ]

pub formed-more : (es more due : List Edge) → length (formed es due) ≤ length (formed (es ++ more) due)
formed-more es more due = grown due es more (es ++ more) (λ g is. among-either es more g is) (let n = length-append es more in omega (arith, n))

pub among-left : (es fs : List Edge) (g : Edge) → is_among es g ≡ true → is_among (es ++ fs) g ≡ true
among-left [] fs g is = cc
among-left (x ∷ es) fs g is =
    elim (or_cases (same_edge g x) (is_among es g) is) [
      | inl here ↦ left-true (same_edge g x) (is_among (es ++ fs) g) here
      | inr there ↦ right-true (same_edge g x) (is_among (es ++ fs) g) (among-left es fs g there)
    ]

pub among-right : (es fs : List Edge) (g : Edge) → is_among fs g ≡ true → is_among (es ++ fs) g ≡ true
among-right [] fs g is = is
among-right (x ∷ es) fs g is = right-true (same_edge g x) (is_among (es ++ fs) g) (among-right es fs g is)

-- an edge in force stays in force
among-still : (es due : List Edge) (g : Edge) → is_among es g ≡ true → is_among (formed es due) g ≡ true
among-still es due g is =
    let more = edges-formed es due in
    ap (λ xs. is_among xs g) more.1 ∙ among-left es more.0 g is

-- an edge that is formed is in force afterwards
among-with : (es : List Edge) (f g : Edge) → same_edge g f ≡ true → is_among (with_edge es f) g ≡ true
among-with es f g same = of (is_among es f) refl
  where
    of : (b : Bool) → is_among es f ≡ b → is_among (if b then es else es ++ f ∷ []) g ≡ true
    of true is = among-same es f g same is
    of false is = among-last es f g same

among-formed : (es due : List Edge) (g : Edge) → is_among due g ≡ true → is_among (formed es due) g ≡ true
among-formed es [] g is = cc
among-formed es (f ∷ due) g is =
    elim (or_cases (same_edge g f) (is_among due g) is) [
      | inl here ↦ among-still (with_edge es f) due g (among-with es f g here)
      | inr there ↦ among-formed (with_edge es f) due g there
    ]

-- if all of them are in force, none is formed
formed-there : (es due : List Edge) → ((g : Edge) → is_among due g ≡ true → is_among es g ≡ true) → formed es due ≡ es
formed-there es [] all = refl
formed-there es (f ∷ due) all =
    of (is_among es f) (all f (left-true (same_edge f f) (is_among due f) (same-made f f (record { kind = refl; j = refl; i = refl }))))
    (formed-there es due (λ g is. all g (right-true (same_edge g f) (is_among due g) is)))
  where
    of : (b : Bool) → b ≡ true → formed es due ≡ es → formed (if b then es else es ++ f ∷ []) due ≡ es
    of true is rest = rest
    of false is rest = cc

-- as many edges are in force after some are formed, where there were more before, and all of these are formed
pub formed-covered : (es more due due2 : List Edge) → ((g : Edge) → is_among due g ≡ true → is_among due2 g ≡ true) → length (formed es due) ≤ length (formed (es ++ more) due2)
formed-covered es more due due2 all =
    let fs = formed (es ++ more) due2 in
    let grew = edges-formed (es ++ more) due2 in
    let is : fs ≡ es ++ (more ++ grew.0) = grew.1 ∙ append_assoc es more grew.0 in
    let covers : Covers es (more ++ grew.0) fs = λ g among. among-either es (more ++ grew.0) g (sym (ap (λ xs. is_among xs g) is) ∙ among) in
    let long = ap length is in
    let count = length-append es (more ++ grew.0) in
    let fits : length es + length (more ++ grew.0) ≤ length fs = omega (arith, long, count) in
    let here = ap length (formed-there fs due (λ g among. among-formed (es ++ more) due2 g (all g among))) in
    let grow = grown due es (more ++ grew.0) fs covers fits in
    omega (arith, grow, here)
