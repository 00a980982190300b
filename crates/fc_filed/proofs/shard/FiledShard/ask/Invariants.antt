use Rattle.fc_filed.proofs.shard.FiledShard.ask.Given as goal

abbrev pub ghosts-ask_as : goal.ghosts-ask_as
ghosts-ask_as g a = record { operation = g.C.FiledCall.operation a.this.now.shard.index a.call }
