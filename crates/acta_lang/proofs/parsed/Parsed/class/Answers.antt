use Rattle.std.proofs.Common.{ap, ◌∙◌, unwrap_or}
use Rattle.acta_table.specs.Starts.{each_start_edge_once}
use Rattle.acta_lang.proofs.parsed.Parsed.class.Goals as goal

pub returns : goal.returns
returns g c = λ i. record {
  name = (c.of.ensures ∙ c.in_ok-from_slice.ensures.items) i;
  starts = c.unwrap_or.ensures i;
  may = (c.unwrap_or-2.ensures ∙ ap (unwrap_or c.args.self.now.may) c.none.ensures.bits) i;
  scope = c.unwrap_or-3.ensures i;
  policy = c.unwrap_or-4.ensures i;
  at_commit = c.unwrap_or-5.ensures i;
  extent = c.unwrap_or-6.ensures i;
  spawn_edges = (c.in_ok-of.ensures ∙ ap each_start_edge_once c.deref.ensures.value) i;
  split_edges = (c.in_ok-of-2.ensures ∙ ap each_start_edge_once c.deref-2.ensures.value) i;
}
