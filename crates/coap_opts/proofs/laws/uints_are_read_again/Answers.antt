use Rattle.coap_opts.proofs.Spellings.{uint_again, uint_first, uint_short}
use Rattle.coap_opts.proofs.laws.uints_are_read_again.Goals as goal

pub returns : goal.returns
returns c = record { again = uint_again; shortest = uint_first; short = uint_short }
