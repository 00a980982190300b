use Rattle.coap_opts.proofs.Checked.{by_method, by_option, by_path, by_payload, by_proxy, by_service, by_value, carried, in_silence}
use Rattle.coap_opts.proofs.laws.checks_come_in_order.Goals as goal

pub returns : goal.returns
returns c = record {
  proxy = by_proxy;
  option = by_option;
  silent = in_silence;
  method = by_method;
  path = by_path;
  served = by_service;
  value = by_value;
  payload = by_payload;
  carried_out = carried;
}
