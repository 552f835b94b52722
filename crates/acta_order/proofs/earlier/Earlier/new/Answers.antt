use Rattle.acta_order.proofs.earlier.Earlier.new.Goals as goal

pub returns : goal.returns
returns g c = λ i. record { orders = c.args.orders; counts = c.in_ok-vec.ensures.items_if_clones_equal (λ y same. same) i }
