use Rattle.std.proofs.Common.{◌∙◌, rules, arith}
use Rattle.coap_client.proofs.Splitting.{counted, cut_more, no_path, no_segment, not_nil, pushed, segment_fault, slash_fault, tells, unfit}
use Rattle.coap_client.proofs.path.Path.parse.Goals as goal

pub returns-in-Some-fault_of-clause-none : goal.returns-in-Some-fault_of-clause-none
returns-in-Some-fault_of-clause-none c =
    tells _ _ (no_segment _ _ _ _ _ _ c.loop-after.invariant c.in-Some.ensures c.first_segment.ensures (unfit _ _ _ c.in-Some-fault_of.ensures))

pub returns-in-Some-fault_of-clause-fault : goal.returns-in-Some-fault_of-clause-fault
returns-in-Some-fault_of-clause-fault c =
    segment_fault _ _ _ _ _ _ _ _ c.loop-after.invariant c.in-Some.ensures c.first_segment.ensures (counted c.loop-after.segments.items c.len.result c.saturating_add.result (c.len.ensures ∙ c.loop-after.segments.ok.0) (let add = c.saturating_add.ensures in let len = c.len.ensures in omega (arith, add, len))) c.in-Some-fault_of.ensures

pub loop-after-preserved : goal.loop-after-preserved
loop-after-preserved c =
    let sized = c.in_default-fault_of.ensures in
    cut_more _ _ _ _ _ _ _ c.loop-after.invariant c.in-Some.ensures c.first_segment.ensures
    (record { some = sized.0; short = sized.1; unsplit = c.first_segment.ensures.unsplit }) (pushed c.loop-after.segments.items c.push.new.self.items c.first_segment.result.0 (search rules))

pub returns-clause-fault : goal.returns-clause-fault
returns-clause-fault c = slash_fault _ _ _ c.loop-after.invariant (λ nil. not_nil _ c.if-is_empty.ensures nil) c.in_default.ensures

pub returns-clause-none : goal.returns-clause-none
returns-clause-none c = no_path _ _ _ c.loop-after.invariant (λ nil. not_nil _ c.if-is_empty.ensures nil) c.in_default.ensures
