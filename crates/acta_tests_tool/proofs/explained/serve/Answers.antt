-- Any thread may give a block back: it is one of the allocator inside.
use Rattle.acta_tests_tool.proofs.explained.serve.Goals as goal

pub explain_tool-requires-frees-A-Allocator : goal.explain_tool-requires-frees-A-Allocator
explain_tool-requires-frees-A-Allocator g c κs within = record { frees = λ r τ p. c.type_bounds.frees-B-Allocator.frees r.now.inner τ p }
