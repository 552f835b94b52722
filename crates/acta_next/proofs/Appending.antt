-- Texts that are put together, if memory does not run out.
use Rattle.std.proofs.Common.{◌≡◌, ℕ, List, ◌++◌, Result, Ok, Err, OnOk, ap, ◌∙◌, append_assoc}

pub on-ok : {X E : Type 0} (r : Result X E) (P Q : Type 0) → (P → Q) → OnOk r P → OnOk r Q
on-ok (Ok x) P Q f p = f p
on-ok (Err e) P Q f p = tt

-- two pieces, one after another, and three
pub two : (t a b x y : List ℕ) → x ≡ t ++ a → y ≡ x ++ b → y ≡ t ++ (a ++ b)
two t a b x y first last = last ∙ ap (λ s. s ++ b) first ∙ append_assoc t a b

pub three : (t a b c x y z : List ℕ) → x ≡ t ++ a → y ≡ x ++ b → z ≡ y ++ c → z ≡ t ++ (a ++ (b ++ c))
three t a b c x y z first second last = last ∙ ap (λ s. s ++ c) (two t a b x y first second) ∙ append_assoc t (a ++ b) c ∙ ap (λ s. t ++ s) (append_assoc a b c)
