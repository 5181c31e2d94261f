-- Each turn takes one member and writes it down.
use Rattle.std.proofs.Common.{arith, rules}
use Rattle.std.proofs.lemmas.List.{set-get_or}
use Rattle.lists.proofs.Draining.{begins_after_fill, goes, used_up, drained, emptied_after_fill}
use Rattle.lists.proofs.drain.drain.Goals as goal

pub loop-place-init : goal.loop-place-init
loop-place-init g c =
    let top = g.L.WaitingLists.HIGHEST in let sets = g.L.WaitingLists.sets in let filled = c.if-not-fill.ensures in
    begins_after_fill top c.args.n c.args.worker c.args.set (sets c.args.lists.now) (sets c.fill.new.self) c.args.taken.now g.met.L.WaitingLists.bounded.1 (search rules) filled.answer filled.after

pub loop-place-preserved : goal.loop-place-preserved
loop-place-preserved g c = goes c.loop-place.invariant c.in-Some.ensures.0 c.in-Some.ensures.1

pub returns-after-loop-place : goal.returns-after-loop-place
returns-after-loop-place g c =
    let top = g.L.WaitingLists.HIGHEST in let filled = c.if-not-fill.ensures in let inv = c.loop-place.invariant in
    let none = used_up top g.met.L.WaitingLists.bounded.1 (g.met.L.WaitingLists.within c.loop-place.lists) inv (omega arith) in
    record { answer = filled.answer; after = emptied_after_fill inv none top (g.L.WaitingLists.sets c.args.lists.now) filled.answer filled.after; once = drained inv none }

pub returns-in_default-clause-once : goal.returns-in_default-clause-once
returns-in_default-clause-once g c = simp set-get_or (drained c.loop-place.invariant c.in_default.ensures.0)
