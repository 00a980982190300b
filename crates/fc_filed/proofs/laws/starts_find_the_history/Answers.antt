use Rattle.fc_filed.proofs.Recovered.{finds_history}
use Rattle.fc_filed.proofs.laws.starts_find_the_history.Goals as goal

pub returns : goal.returns
returns g c = λ keyed_from numbered_from first end stored closed calls earlier later before persistent serves right keyed begun saved is.
    finds_history g.S.Store keyed_from numbered_from first end stored earlier later before closed calls persistent serves right keyed begun saved is
