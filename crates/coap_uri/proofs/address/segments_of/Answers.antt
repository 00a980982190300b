use Rattle.std.proofs.Common.{lit<, sym, ap, subst, ◌∙◌, ◌≡◌, IfOk, None, Some}
use Rattle.std.proofs.lemmas.Str.Pattern.{strip_prefix_char}
use Rattle.coap_client.specs.Paths.{slash}
use Rattle.coap_uri.specs.Addresses.{segments_in, texts_in}
use Rattle.coap_uri.proofs.Segments.{no_segments}
use Rattle.coap_uri.proofs.address.segments_of.Goals as goal

pub returns-in-None : goal.returns-in-None
returns-in-None c =
    ap texts_in c.new.ensures.items ∙ sym (no_segments c.args.path.now (strip_prefix_char slash c.args.path.now None c.in-None.ensures.cases (lit< tt)))

pub returns-in-Some : goal.returns-in-Some
returns-in-Some c =
    let cut = strip_prefix_char slash c.args.path.now (Some c.in-Some.rest) c.in-Some.ensures.cases (lit< tt) in
    subst (λ path. IfOk c.pieces.result (λ v. texts_in v.items ≡ segments_in path)) (sym cut) c.pieces.ensures
