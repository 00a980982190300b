use Rattle.fc_help.proofs.Laid.{region_size}
use Rattle.fc_help.proofs.Places.{format_is, get_is, no_format_is, payload_ends, payload_is, payload_length_is, post_is, query_ends, query_is, query_length_is, reserved_is, slot_is}
use Rattle.fc_help.proofs.laws.requests_have_their_places.Goals as goal

pub returns : goal.returns
returns c = record {
  size = region_size;
  get = get_is;
  post = post_is;
  slot = slot_is;
  payload_length = payload_length_is;
  content_format = format_is;
  no_content_format = no_format_is;
  query_length = query_length_is;
  reserved = reserved_is;
  query = query_is;
  after_query = query_ends;
  payload = payload_is;
  after_payload = payload_ends;
}
