use Rattle.std.proofs.Common.{[], ◌∷◌, ◌++◌, map, rules}
use Rattle.std.specs.Prelude.{option_map}
use Rattle.acta_explore.specs.inside.Shown.{shown, shown_value, shown_wait}
use Rattle.acta_ends.specs.EndLines.{chose_lines, head_line, lines_from, order_line, owed_line, return_lines, status_line, value_lines, wait_line}
use Rattle.acta_ends.proofs.Sections.{before}
use Rattle.acta_ends.proofs.end.push_end.Goals as goal

pub returns : goal.returns
returns g c =
    let model = c.args.model.now in
    let lines = c.args.lines.now in
    let numbers = c.args.numbers.now in
    let outcome = c.args.outcome.now in
    let all = c.push_order.new.text.items in
    let head = c.push_head.new.text.items in
    let waits = c.push_waits.new.text.items in
    let statuses = c.push_statuses.new.text.items in
    let values = c.push_values.new.text.items in
    let debts = c.push_debts.new.text.items in
    let choices = c.push_choices.new.text.items in
    let returned = c.push_returns.new.text.items in
    let order_part = order_line lines numbers c.args.steps.now ∷ [] in
    let return_part = lines_from (return_lines numbers) 0 outcome.lines.items in
    let choice_part = lines_from (chose_lines lines numbers) 0 outcome.lines.items in
    let debt_part = map owed_line outcome.debts.items in
    let value_part = lines_from (value_lines model) 0 (map (option_map shown_value) outcome.values.items) in
    let status_part = map status_line outcome.statuses.items in
    let wait_part = map (wait_line numbers) (map shown_wait outcome.waits.items) in
    let seven = before choices returned all return_part order_part (search rules) c.in_ok-push_order.ensures in
    let six = before debts choices all choice_part (return_part ++ order_part) (search rules) seven in
    let five = before values debts all debt_part (choice_part ++ (return_part ++ order_part)) (search rules) six in
    let four = before statuses values all value_part (debt_part ++ (choice_part ++ (return_part ++ order_part))) (search rules) five in
    let three = before waits statuses all status_part (value_part ++ (debt_part ++ (choice_part ++ (return_part ++ order_part)))) (search rules) four in
    let two = before head waits all wait_part (status_part ++ (value_part ++ (debt_part ++ (choice_part ++ (return_part ++ order_part))))) (search rules) three in
    before c.args.text.now.items head all (head_line c.args.number (shown outcome) ∷ []) (wait_part ++ (status_part ++ (value_part ++ (debt_part ++ (choice_part ++ (return_part ++ order_part))))))
    c.in_ok-push_head.ensures two
