use Rattle.std.proofs.Common.{◌≡◌, ℕ, ◌+◌, ◌≤◌, refl, sym, ap, ◌∙◌, rules, arith, length}
use Rattle.std.specs.Prelude.{replicate}
use Rattle.fc_kinds.specs.Meaning.{input_with, start}
use Rattle.fc_help.specs.Helpers.{room_of}
use Rattle.fc_help.proofs.Laid.{readings_whole}
use Rattle.fc_machine.specs.Array.{StandBeside}
use Rattle.fc_machine.specs.Steps.{spliced}
use Rattle.fc_machine.proofs.Beginning.{start_stands}
use Rattle.fc_machine.proofs.Rewritten.{zeros_stay}
use Rattle.fc_machine.proofs.begin.begin.Goals as goal

pub put_request-requires-clause-zeros : goal.put_request-requires-clause-zeros
put_request-requires-clause-zeros c =
    let len : length c.args.state.now.memory ≡ 3472 = search rules in
    let frame : 0 + length {A = ℕ} (replicate 256 0) ≤ 2128 = omega arith in
    zeros_stay c.args.state.now.memory c.clear-2.new.memory c.args.state.now.sizes.payload 0 (replicate 256 0) len frame c.clear-2.ensures c.requires.zeros

pub returns-clause-stands : goal.returns-clause-stands
returns-clause-stands c = λ version.
    let q = c.args.request.now in
    let len : length c.args.state.now.memory ≡ 3472 = search rules in
    let seven : length c.args.state.now.callers ≡ 7 = search rules in
    let whole : length c.args.readings.now ≡ 64 = search rules in
    let count : length c.payload.result.now ≡ length q.payload = ap length c.payload.ensures.payload in
    let beside : StandBeside (start version (input_with q c.args.found.now c.args.readings.now)) _ = record {
      depth = refl;
      shallow = omega arith;
      places = seven;
      saved = tt;
      frames = refl;
      reply = c.clear.ensures;
      notice = refl;
      payload = count;
      vars = ap length c.as_slice.ensures;
      room = c.room_of.ensures ∙ ap room_of c.method.ensures;
      fits = c.put_request.ensures.fits;
    } in
    start_stands version (input_with q c.args.found.now c.args.readings.now) c.args.state.now.memory c.clear-2.new.memory c.put_request.new.memory c.put.new.memory _ (length c.payload.result.now) len beside c.requires.vars count refl
    c.clear-2.ensures c.put_request.ensures.region (c.put.ensures ∙ ap (spliced c.put_request.new.memory 3152) c.as_slice-2.ensures) (c.put-2.ensures ∙ ap (spliced c.put.new.memory 3408) (sym (readings_whole c.args.readings.now whole)))
