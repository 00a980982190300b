use Rattle.std.proofs.Common.{◌∙◌, arith}
use Rattle.fc_backend.specs.Messages.{with_new_track}
use Rattle.fc_backend.specs.Statistics.{new_share}
use Rattle.fc_backend.proofs.Messages.{new_with}
use Rattle.fc_pool.proofs.pool.fn.run_at.drive_workers.Goals as goal

pub returns : goal.returns
returns g c = (
  record {
    first = record { offload = c.new.result.offload; done = c.new.result.done };
    last = _;
    new = record {
      offload_is = c.new.ensures.offload ∙ c.offload_where-offload.ensures;
      tallies = c.captures.own.tallies;
      log = with_new_track c.captures.keys c.captures.own.log;
      new_log = new_with c.captures.keys c.captures.own.log c.requires.new_log;
      own = c.new.ensures.own;
      job = (let first = c.requires.keys in omega (arith, first));
      done = c.new.ensures.done ∙ (λ i. record { sent = c.requires.sent i; share = new_share (c.requires.got i) c.captures.own.tallies (with_new_track c.captures.keys c.captures.own.log) });
    };
    drives = c.drive-ingress.ensures;
    own_is = c.close.ensures.share;
  },
  c.close.ensures.order,
)
