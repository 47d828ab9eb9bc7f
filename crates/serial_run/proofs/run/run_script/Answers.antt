use Rattle.std.proofs.Common.{◌≡◌, ◌∙◌, reverse, ap, sym, List}
use Rattle.std.proofs.lemmas.List.{reverse-reverse}
use Rattle.audit_model.specs.declared.script.Phase.{Phase}
use Rattle.serial_run.specs.Runs.{ends_pass}
use Rattle.serial_run.proofs.Finishing.{none_left, running_starts, running_on, next_phase, run_done, run_full, run_left, run_unwritten, unwritten_sure}
use Rattle.serial_run.proofs.run.run_script.Goals as goal

pub loop-next-init : goal.loop-next-init
loop-next-init g c =
    let turned = ap (λ (ps : List Phase). reverse ps) c.reverse.ensures.items ∙ reverse-reverse c.into_vec-rest.result.items ∙ c.into_vec-rest.ensures in
    running_starts c.args.core c.args.phases (reverse c.reverse.new.self.items) _ _ _ turned c.requires.fresh c.requires.order

pub returns-in-Err-Full-clause-ran : goal.returns-in-Err-Full-clause-ran
returns-in-Err-Full-clause-ran g c =
    let k = next_phase c.loop-next.rest.items c.pop.new.self.items c.in-Some.next c.in-Some.ensures.items c.loop-next.invariant in
    run_full c.phase.new.core c.in-Some.next (reverse c.pop.new.self.items) c.ended.result c.in-Err-Full.field-0 c.in-Err-Full.field-0-is c.output_is_told.ensures k (c.in-Err-Full.ensures k.run k.at) c.ended.ensures.journal c.ended.ensures.end

pub returns-in-Err-Memory-clause-ran : goal.returns-in-Err-Memory-clause-ran
returns-in-Err-Memory-clause-ran g c =
    let k = next_phase c.loop-next.rest.items c.pop.new.self.items c.in-Some.next c.in-Some.ensures.items c.loop-next.invariant in
    run_left c.phase.new.core c.in-Some.next (reverse c.pop.new.self.items) c.ended-in-Err-Memory.result c.in-Err-Memory.field-0 c.in-Err-Memory.field-0-is c.output_is_told.ensures k (c.in-Err-Memory.ensures k.run k.at) c.ended-in-Err-Memory.ensures.journal c.ended-in-Err-Memory.ensures.end

pub returns-in-Err-clause-ran : goal.returns-in-Err-clause-ran
returns-in-Err-clause-ran g c =
    let k = next_phase c.loop-next.rest.items c.pop.new.self.items c.in-Some.next c.in-Some.ensures.items c.loop-next.invariant in
    let short = rw c.as_slice.ensures at c.in-Err.ensures.err.1 in
    let w = rw c.as_slice.ensures at c.in-Err.ensures.err.2 in
    run_unwritten c.phase.new.core (g.K.Sink.written c.write_all.new.sink) c.in-Some.next (reverse c.pop.new.self.items) c.in-Ok.text c.in-Err.ensures.err.0 c.ended-in-Err.result c.output_is_told.ensures k (c.in-Ok.ensures k.run k.at) short w c.ended-in-Err.ensures.journal c.ended-in-Err.ensures.end

pub returns-in-Err-clause-sure : goal.returns-in-Err-clause-sure
returns-in-Err-clause-sure g c =
    let k = next_phase c.loop-next.rest.items c.pop.new.self.items c.in-Some.next c.in-Some.ensures.items c.loop-next.invariant in
    λ more sure.
    let s = unwritten_sure c.phase.new.core c.in-Some.next (reverse c.pop.new.self.items) c.in-Ok.text c.output_is_told.ensures (c.serial_is_legal.ensures c.args.core.ground c.args.phases) c.requires.order k (c.in-Ok.ensures k.run k.at) more sure in
    let ok = c.in-Err.ensures.sure s.0 (rw c.as_slice.ensures s.1) in
    absurd (cc)

pub loop-next-preserved : goal.loop-next-preserved
loop-next-preserved g c =
    let k = next_phase c.loop-next.rest.items c.pop.new.self.items c.in-Some.next c.in-Some.ensures.items c.loop-next.invariant in
    let w = rw c.as_slice.ensures at c.in-Ok-write_all.ensures.ok in
    let left = rw c.as_slice.ensures at c.in-Ok-write_all.ensures.left in
    let passes = c.ends_pass-passed.ensures ∙ ap ends_pass c.as_slice-in-Ok-write_all.ensures in
    running_on c.in-Some.next (reverse c.pop.new.self.items) c.in-Ok.text c.ends_pass-passed.result k (c.in-Ok.ensures k.run k.at) w c.in-Ok-write_all.ensures.calm left passes

pub returns-clause-ran : goal.returns-clause-ran
returns-clause-ran g c =
    let none = none_left c.loop-next.rest.items _ (sym c.loop-next.rest.ok.0) c.in_default.ensures.variant.1 in
    run_done (reverse c.loop-next.rest.items) c.ended-2.result c.end_of.result c.output_is_told.ensures c.loop-next.invariant none c.ended-2.ensures.journal c.ended-2.ensures.end c.end_of.ensures
