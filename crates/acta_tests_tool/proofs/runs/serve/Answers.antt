-- Any thread may give a block back: it is one of the allocator inside.
use Rattle.acta_tests_tool.proofs.runs.serve.Goals as goal

pub drive_tool-requires-frees-A-Allocator : goal.drive_tool-requires-frees-A-Allocator
drive_tool-requires-frees-A-Allocator g c κs within = record { frees = λ r τ p. c.type_bounds.frees-B-Allocator.frees r.now.inner τ p }

pub run_tool-requires-frees-A-Allocator : goal.run_tool-requires-frees-A-Allocator
run_tool-requires-frees-A-Allocator g c κs within = record { frees = λ r τ p. c.type_bounds.frees-B-Allocator.frees r.now.inner τ p }
