use Rattle.coap_uri.proofs.Addressing.{read_as_path, read_as_uri}
use Rattle.coap_uri.proofs.address.is_uri.Goals as goal

pub returns-then-contains : goal.returns-then-contains
returns-then-contains c = read_as_uri c.args.text.now c.contains.result c.starts_with.result c.contains.ensures.cases c.if-contains.true c.starts_with.ensures.cases

pub returns-else-contains : goal.returns-else-contains
returns-else-contains c = read_as_path c.args.text.now c.contains.result c.contains.ensures.cases c.if-contains.false
