use Rattle.std.proofs.Common.{◌≡◌, ◌+◌, ◌∙◌, ap, subst}
use Rattle.fc_host.specs.Clocks.{AreReadAt}
use Rattle.fc_filed.specs.Recovered.{HaveSavedOrder}
use Rattle.fc_locked.specs.LegalOrder.{HaveSavedLegalOrder}
use Rattle.fc_locked.specs.OneOrder.{logs_of}
use Rattle.fc_locked.specs.SharedStores.{HasSaved}
use Rattle.fc_backend.specs.Statistics.{Share}
use Rattle.fc_workers.specs.declared.dispatcher.Offload.{Offload}
use Rattle.fc_pool.specs.Counting.{both_replies, replies_by, replies_of}
use Rattle.fc_pool.specs.Pooled.{IsNew, locked_view, offload_where}
use Rattle.fc_service.specs.Starting.{StartingSlots}
use Rattle.fc_service.proofs.Fed.{fed_over}
use Rattle.fc_service.proofs.serve.serve_pooled.Goals as goal

pub returns : goal.returns
returns g c =
    let w = fed_over (λ (s : StartingSlots _). locked_view s.first (AreReadAt g.M.TimeSource.is_time g.Z.Sensors.are_sensed) (HasSaved g.P.Store) g.M.TimeSource.is_time g.M.TimeSource.is_random g.W.Wire.called g.C.Recorder.recorded)
    (λ s. s.first) (λ s. HaveSavedOrder g.P.Store s.first (g.P.Store.stored s.store)) _ _ _ _ _ _ _ _ _ c.slots.view_is c.in_ok-fed.ensures.fed in
    let fed = w.fed.fed in
    let made = c.in_ok-fed.fed in
    let order = subst (λ (s : Share _). HaveSavedLegalOrder g.P.Store c.args.slots.first (g.P.Store.stored c.args.slots.store) (logs_of w.shares s) made.closed) fed.own_is (record { legal = w.order; saved = w.saved }) in
    record {
      channel = w.fed.channel;
      first = fed.first;
      last = fed.last;
      has_workers = made.has_workers;
      new = subst (λ (o : Offload). IsNew (10 + (c.args.service.extent.workers + 1)) w.fed.channel (offload_where made.has_workers o) fed.first) c.offload_of.ensures fed.new;
      at_once = made.given.replies;
      run = fed.drives;
      shares = w.shares;
      worked = w.fed.shares_are;
      count = w.count;
      closed = made.closed;
      order = order.legal;
      saved = order.saved;
      all = c.plus.ensures ∙ ap (both_replies made.given.replies) (w.counted ∙ ap (λ own. both_replies (replies_of w.shares) (replies_by own)) fed.own_is);
    }
