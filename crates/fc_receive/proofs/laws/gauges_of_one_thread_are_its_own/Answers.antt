use Rattle.fc_receive.proofs.Reported.{one_threads_observers}
use Rattle.fc_receive.proofs.laws.gauges_of_one_thread_are_its_own.Goals as goal

pub returns-clause-observers : goal.returns-clause-observers
returns-clause-observers g c now n s gauges lt are = one_threads_observers g.C.Recorder.recorded now n s gauges are
