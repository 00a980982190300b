use Rattle.std.proofs.Common.{◌∙◌, Some, length, sym, ap, arith}
use Rattle.std.proofs.lemmas.Bool.{lt-ltb, le-ltb}
use Rattle.coap_opts.specs.Path.{method_of}
use Rattle.coap_opts.proofs.Order.{proxy_fails, unknown_fails, method_fails, path_fails, service_fails, value_fails, payload_fails, none_fails, collected_proxy, collected_bad, collected_query, collected_served, known_by, asked_is}
use Rattle.coap_opts.proofs.classifier.write_request.Goals as goal

pub returns-then-names_proxy : goal.returns-then-names_proxy
returns-then-names_proxy c = proxy_fails c.args.message.now (collected_proxy _ _ c.collect.ensures.parts ∙ (sym c.names_proxy.ensures ∙ c.if-names_proxy.true))

pub returns-then-collected : goal.returns-then-collected
returns-then-collected c =
    unknown_fails c.args.message.now (collected_proxy _ _ c.collect.ensures.parts ∙ (sym c.names_proxy.ensures ∙ c.if-names_proxy.false)) (sym c.collect.ensures.unknown ∙ c.if-collected.true)

pub returns-in_default : goal.returns-in_default
returns-in_default c =
    let known = known_by c.args.message.now _ c.collect.ensures.parts (sym c.names_proxy.ensures ∙ c.if-names_proxy.false) (sym c.collect.ensures.unknown ∙ c.if-collected.false) in
    method_fails c.args.message.now known (ap method_of (sym c.code.ensures) ∙ (sym c.method_of.ensures ∙ c.in_default.is))

pub returns-in_default-resource_of : goal.returns-in_default-resource_of
returns-in_default-resource_of c =
    let known = known_by c.args.message.now _ c.collect.ensures.parts (sym c.names_proxy.ensures ∙ c.if-names_proxy.false) (sym c.collect.ensures.unknown ∙ c.if-collected.false) in
    path_fails c.args.message.now c.in-Some.method known (ap method_of (sym c.code.ensures) ∙ (sym c.method_of.ensures ∙ c.in-Some.is))
    (sym c.collect.ensures.parts.path ∙ (sym c.resource_of.ensures ∙ c.in_default-resource_of.is))

pub returns-in_default-action_of : goal.returns-in_default-action_of
returns-in_default-action_of c =
    let known = known_by c.args.message.now _ c.collect.ensures.parts (sym c.names_proxy.ensures ∙ c.if-names_proxy.false) (sym c.collect.ensures.unknown ∙ c.if-collected.false) in
    service_fails c.args.message.now c.in-Some.method c.in-Some-resource_of.resource known (ap method_of (sym c.code.ensures) ∙ (sym c.method_of.ensures ∙ c.in-Some.is))
    (sym c.collect.ensures.parts.path ∙ (sym c.resource_of.ensures ∙ c.in-Some-resource_of.is)) (sym c.action_of.ensures ∙ c.in_default-action_of.is)

pub returns-then-is_bad : goal.returns-then-is_bad
returns-then-is_bad c =
    let known = known_by c.args.message.now _ c.collect.ensures.parts (sym c.names_proxy.ensures ∙ c.if-names_proxy.false) (sym c.collect.ensures.unknown ∙ c.if-collected.false) in
    let served = collected_served c.args.message.now _ c.in-Some.method c.in-Some-resource_of.resource c.in-Some-action_of.action c.collect.ensures.parts known (ap method_of (sym c.code.ensures) ∙ (sym c.method_of.ensures ∙ c.in-Some.is))
    (sym c.resource_of.ensures ∙ c.in-Some-resource_of.is) (sym c.action_of.ensures ∙ c.in-Some-action_of.is) in
    value_fails c.args.message.now c.in-Some.method c.in-Some-resource_of.resource c.in-Some-action_of.action served
    (collected_bad _ _ c.collect.ensures.parts _ _ c.block_of-block1.ensures c.block_of-block2.ensures ∙ (sym c.is_bad.ensures ∙ c.if-is_bad.true))

pub returns-then-payload-gt-PAYLOAD : goal.returns-then-payload-gt-PAYLOAD
returns-then-payload-gt-PAYLOAD c =
    let known = known_by c.args.message.now _ c.collect.ensures.parts (sym c.names_proxy.ensures ∙ c.if-names_proxy.false) (sym c.collect.ensures.unknown ∙ c.if-collected.false) in
    let served = collected_served c.args.message.now _ c.in-Some.method c.in-Some-resource_of.resource c.in-Some-action_of.action c.collect.ensures.parts known (ap method_of (sym c.code.ensures) ∙ (sym c.method_of.ensures ∙ c.in-Some.is))
    (sym c.resource_of.ensures ∙ c.in-Some-resource_of.is) (sym c.action_of.ensures ∙ c.in-Some-action_of.is) in
    let good = collected_bad _ _ c.collect.ensures.parts _ _ c.block_of-block1.ensures c.block_of-block2.ensures ∙ (sym c.is_bad.ensures ∙ c.if-is_bad.false) in
    payload_fails c.args.message.now c.in-Some.method c.in-Some-resource_of.resource c.in-Some-action_of.action served good (lt-ltb 1024 (length c.args.message.now.payload) (omega (arith, ap length c.payload-payload.ensures)))

pub returns : goal.returns
returns c =
    let known = known_by c.args.message.now _ c.collect.ensures.parts (sym c.names_proxy.ensures ∙ c.if-names_proxy.false) (sym c.collect.ensures.unknown ∙ c.if-collected.false) in
    let served = collected_served c.args.message.now _ c.in-Some.method c.in-Some-resource_of.resource c.in-Some-action_of.action c.collect.ensures.parts known (ap method_of (sym c.code.ensures) ∙ (sym c.method_of.ensures ∙ c.in-Some.is))
    (sym c.resource_of.ensures ∙ c.in-Some-resource_of.is) (sym c.action_of.ensures ∙ c.in-Some-action_of.is) in
    let good = collected_bad _ _ c.collect.ensures.parts _ _ c.block_of-block1.ensures c.block_of-block2.ensures ∙ (sym c.is_bad.ensures ∙ c.if-is_bad.false) in (
      none_fails c.args.message.now c.in-Some.method c.in-Some-resource_of.resource c.in-Some-action_of.action served good (le-ltb 1024 (length c.args.message.now.payload) (omega (arith, ap length c.payload-payload.ensures))),
      asked_is c.args.message.now c.in-Some.method c.in-Some-resource_of.resource c.in-Some-action_of.action served
          ∙ ap Some (sym (c.write_fields.ensures c.args.message.now c.collect.ensures.parts.firsts (collected_query _ _ c.collect.ensures.parts good) c.collect.ensures.parts.etags c.payload-payload.ensures)),
    )

pub collect-requires-clause-parts : goal.collect-requires-clause-parts
collect-requires-clause-parts c = c.new-collected.ensures.parts c.args.message.now
