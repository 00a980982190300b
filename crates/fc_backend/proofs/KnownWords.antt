-- The head words that a worker knows: after a look, after a raise, and after any logged call.
use Rattle.std.specs.Prelude.{None, Option}
use Rattle.std.proofs.Common.{◌≡◌, ◌∙◌, ℕ, ◌≤◌, Bool, true, if◌then◌else◌, max, ap, subst, sym, arith}
use Rattle.std.specs.Prelude.{◌==◌}
use Rattle.std.proofs.lemmas.Bool.Decides.{nat_tests}
use Rattle.fc_book.specs.declared.view.BookView.{BookView}
use Rattle.fc_book.specs.Tracks.{HasKey}
use Rattle.fc_filed.specs.declared.entry.FiledEntry.{FiledEntry}
use Rattle.fc_store.specs.Recovery.{Save}
use Rattle.fc_filed.specs.Threads.{did_by, entry_by, entry_with, known_word, word_in}
use Rattle.fc_filed.proofs.Known.{known_filed, known_more}
use Rattle.fc_calls.specs.Logged.{LoggedCall, HandlesDatagram, AdvancesFront, FiresTimer, DrawsId, AnswersRequest, TellsReceipt, GivesReadings, ReadsCost, LooksAt, RaisesWord}
use Rattle.fc_calls.specs.Logged.{TakesForJob, CommitsRun, InstallsProgram, RemovesProgram, HandsSignal, AdvancesIdle, SkipsIdle, AdvancesShard, GivesTurn, NotesTurn, GivesUpTurn}
use Rattle.fc_linear.specs.Operations.{Logged, Operation}
use Rattle.fc_backend.specs.Filed.{shard_called, HasFiled, HasFiledWith, HasSameTracks, IsFiledCall}
use Rattle.fc_backend.specs.Logs.{TrackedLog}

same_slot : (slot : ℕ) → (slot == slot) ≡ true
same_slot slot = grind (arith, nat_tests)

module _ (slot word who : ℕ) (v w : BookView FiledEntry) (has : HasKey who v.own) where
  pub knows_look : w ≡ did_by who (Logged (LooksAt slot word)) v → known_word slot v.own ≤ word → known_word slot w.own ≡ word
  knows_look is le =
      let own : word_in slot (Logged (LooksAt slot word)) ≡ word = ap (λ (b : Bool). if b then word else 0) (same_slot slot) in
      let same : known_word slot w.own ≡ known_word slot (did_by who (Logged (LooksAt slot word)) v).own = ap (λ (u : BookView FiledEntry). known_word slot u.own) is in
      let greater : max (known_word slot v.own) word ≡ word = omega (arith, le) in
      same ∙ (known_filed slot (entry_by who v (Logged (LooksAt slot word))) v.own has ∙ (ap (λ (n : ℕ). max (known_word slot v.own) n) own ∙ greater))

  pub knows_raise : w ≡ did_by who (Logged (RaisesWord slot word)) v → known_word slot w.own ≡ max (known_word slot v.own) word
  knows_raise is =
      let own : word_in slot (Logged (RaisesWord slot word)) ≡ word = ap (λ (b : Bool). if b then word else 0) (same_slot slot) in
      let same : known_word slot w.own ≡ known_word slot (did_by who (Logged (RaisesWord slot word)) v).own = ap (λ (u : BookView FiledEntry). known_word slot u.own) is in
      same ∙ (known_filed slot (entry_by who v (Logged (RaisesWord slot word))) v.own has ∙ ap (λ (n : ℕ). max (known_word slot v.own) n) own)

module _ (slot : ℕ) where
  abbrev KnowsNoLess : TrackedLog → TrackedLog → Type 0
  KnowsNoLess before after = known_word slot before.tracks.own ≤ known_word slot after.tracks.own

  filed_with : (save : Option Save) (operation : Operation) (before after : TrackedLog) → HasFiledWith save operation before after → KnowsNoLess before after
  filed_with save operation before after is = subst (λ (v : BookView FiledEntry). known_word slot before.tracks.own ≤ known_word slot v.own) (sym is.tracks)
      (known_more slot (entry_with save before.who before.tracks operation) before.tracks.own).0

  filed : (operation : Operation) (before after : TrackedLog) → HasFiled operation before after → KnowsNoLess before after
  filed operation before after is = filed_with None operation before after is

  unfiled : (before after : TrackedLog) → HasSameTracks before after → KnowsNoLess before after
  unfiled before after is = subst (λ (v : BookView FiledEntry). known_word slot before.tracks.own ≤ known_word slot v.own) (sym is.tracks) (omega arith)

  pub knows_still : (call : LoggedCall) (before after : TrackedLog) → IsFiledCall call before after → KnowsNoLess before after
  knows_still (HandlesDatagram now from bytes brings) before after d = filed (Logged (HandlesDatagram now from bytes brings)) before after d
  knows_still (AdvancesFront now) before after d = filed (Logged (AdvancesFront now)) before after d
  knows_still (FiresTimer n now) before after d = filed (Logged (FiresTimer n now)) before after d
  knows_still (DrawsId now id) before after d = filed (Logged (DrawsId now id)) before after d
  knows_still (AnswersRequest now job content sent) before after d = filed (Logged (AnswersRequest now job content sent)) before after d
  knows_still (TellsReceipt job receipt) before after d = filed (Logged (TellsReceipt job receipt)) before after d
  knows_still (GivesReadings readings) before after d = unfiled before after d
  knows_still (ReadsCost n cost) before after d = filed (Logged (ReadsCost n cost)) before after d
  knows_still (LooksAt n word) before after d = filed (Logged (LooksAt n word)) before after d
  knows_still (TakesForJob job readings taken) before after d = filed (Logged (TakesForJob job readings taken)) before after d
  knows_still (CommitsRun now ran ticket committed) before after d = filed_with d.0 (Logged (CommitsRun now ran ticket committed)) before after d.1
  knows_still (InstallsProgram job program made) before after d = filed_with d.0 (Logged (InstallsProgram job program made)) before after d.1
  knows_still (RemovesProgram job removal) before after d = filed_with d.0 (Logged (RemovesProgram job removal)) before after d.1
  knows_still (HandsSignal shard from id reset) before after d = filed (Logged (HandsSignal (shard_called shard) from id reset)) before after d
  knows_still (AdvancesIdle shard now) before after d = filed (Logged (AdvancesIdle (shard_called shard) now)) before after d
  knows_still (SkipsIdle shard now) before after d = filed (Logged (SkipsIdle (shard_called shard) now)) before after d
  knows_still (AdvancesShard shard now ticked) before after d = filed (Logged (AdvancesShard (shard_called shard) now ticked)) before after d
  knows_still (GivesTurn shard now turn) before after d = filed (Logged (GivesTurn (shard_called shard) now turn)) before after d
  knows_still (NotesTurn turn id now random told noted) before after d = filed (Logged (NotesTurn turn id now random told noted)) before after d
  knows_still (GivesUpTurn turn now) before after d = filed (Logged (GivesUpTurn turn now)) before after d
  knows_still (RaisesWord n word) before after d = filed (Logged (RaisesWord n word)) before after d
