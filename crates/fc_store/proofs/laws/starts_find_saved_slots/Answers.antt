use Rattle.fc_store.proofs.Recovery.{found_are, stays_ready, stored_are}
use Rattle.fc_store.proofs.laws.starts_find_saved_slots.Goals as goal

pub returns-clause-stored : goal.returns-clause-stored
returns-clause-stored g c = λ saves first last is. stored_are g.S.Store saves first last is

pub returns-clause-ready : goal.returns-clause-ready
returns-clause-ready g c = λ saves first last is ready. stays_ready g.S.Store saves first last is
    ready

pub returns-clause-found : goal.returns-clause-found
returns-clause-found g c = λ saves first last found is ready settled clean may. found_are g.S.Store
    saves first last is ready settled clean found may
