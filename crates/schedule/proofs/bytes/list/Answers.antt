use Rattle.std.proofs.Common.{◌≡◌, ◌≤◌, length, take, drop, rules}
use Rattle.schedule.specs.Calls.{children}
use Rattle.schedule.proofs.Slices.{list_there}
use Rattle.schedule.proofs.bytes.list.Goals as goal

pub returns : goal.returns
returns c =
    let n = c.in_ok-count.count in
    let rest = c.in_ok-count.rest.now in
    let cells : c.in_ok-cells.cells.now ≡ take n rest = search rules in
    let last : c.in_ok-cells.rest.now ≡ drop n rest = search rules in
    let fits : n ≤ length rest = search rules in
    let list : c.of.result ≡ children n c.in_ok-cells.cells.now = search rules in
    list_there c.args.bytes.now rest c.in_ok-cells.cells.now c.in_ok-cells.rest.now n c.of.result c.in_ok-count.ensures cells last fits list
