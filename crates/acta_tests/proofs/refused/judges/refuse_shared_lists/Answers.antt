-- Any thread may give a block back: it is one of the allocator inside.
use Rattle.acta_tests.proofs.refused.judges.refuse_shared_lists.Goals as goal

pub refuse_lists-requires-frees-A-Allocator : goal.refuse_lists-requires-frees-A-Allocator
refuse_lists-requires-frees-A-Allocator g c κs within = record { frees = λ r τ p. c.type_bounds.frees-B-Allocator.frees r.now.inner τ p }
