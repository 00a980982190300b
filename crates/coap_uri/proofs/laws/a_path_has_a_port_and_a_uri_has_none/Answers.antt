use Rattle.std.proofs.Common.{codes, refl}
use Rattle.coap_uri.specs.Addresses.{IsReadAsUri}
use Rattle.coap_uri.proofs.Addressing.{only_no_memory, only_no_port, only_of_uri, only_two_ports}
use Rattle.coap_uri.proofs.laws.a_path_has_a_port_and_a_uri_has_none.Goals as goal

slashed : IsReadAsUri (codes "/a://b") → ⊥
slashed u = cc u.no_slash

uri : IsReadAsUri (codes "coap://[::1]/r/1")
uri = record { scheme = (codes "coap", codes "[::1]/r/1", refl); no_slash = refl }

pub returns-clause-path : goal.returns-clause-path
returns-clause-path c = λ e h. only_no_port (codes "/r/1") e (λ u. cc u.no_slash) h

pub returns-clause-slashed : goal.returns-clause-slashed
returns-clause-slashed c = λ e h. only_no_port (codes "/a://b") e slashed h

pub returns-clause-with_port : goal.returns-clause-with_port
returns-clause-with_port c = λ e h. only_no_memory (codes "/a://b") 7 e slashed h

pub returns-clause-uri : goal.returns-clause-uri
returns-clause-uri c = λ e h. only_two_ports (codes "coap://[::1]/r/1") 7 e uri h

pub returns-clause-alone : goal.returns-clause-alone
returns-clause-alone c = λ e h. only_of_uri (codes "coap://[::1]/r/1") e uri h
