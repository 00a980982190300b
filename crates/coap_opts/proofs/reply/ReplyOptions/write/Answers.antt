use Rattle.std.proofs.Common.{[], refl, sym, append-nil}
use Rattle.coap_opts.proofs.Following.{IsSoFar, more_so_far}
use Rattle.coap_opts.proofs.reply.ReplyOptions.write.Goals as goal

pub returns-clause-bytes : goal.returns-clause-bytes
returns-clause-bytes c =
    let none : IsSoFar c.args.datagram.now.items c.args.datagram.now.items 0 [] = record { bytes_are = sym (append-nil _); last_is = refl; are = tt } in
    let one = more_so_far _ _ _ _ _ _ _ none c.write_optional-last.ensures.bytes c.write_optional-last.ensures.last c.write_optional-last.ensures.options in
    let two = more_so_far _ _ _ _ _ _ _ one c.write_optional-last-2.ensures.bytes c.write_optional-last-2.ensures.last c.write_optional-last-2.ensures.options in
    let three = more_so_far _ _ _ _ _ _ _ two c.write_optional-last-3.ensures.bytes c.write_optional-last-3.ensures.last c.write_optional-last-3.ensures.options in
    let four = more_so_far _ _ _ _ _ _ _ three c.write_optional-last-4.ensures.bytes c.write_optional-last-4.ensures.last c.write_optional-last-4.ensures.options in
    let five = more_so_far _ _ _ _ _ _ _ four c.write_optional-last-5.ensures.bytes c.write_optional-last-5.ensures.last c.write_optional-last-5.ensures.options in
    rw (sym c.etag_bytes.ensures, sym c.observe_bytes.ensures, sym c.format_bytes-format.ensures, sym c.block_bytes.ensures, sym c.block_bytes-2.ensures) five.bytes_are

pub returns-clause-options : goal.returns-clause-options
returns-clause-options c =
    let none : IsSoFar c.args.datagram.now.items c.args.datagram.now.items 0 [] = record { bytes_are = sym (append-nil _); last_is = refl; are = tt } in
    let one = more_so_far _ _ _ _ _ _ _ none c.write_optional-last.ensures.bytes c.write_optional-last.ensures.last c.write_optional-last.ensures.options in
    let two = more_so_far _ _ _ _ _ _ _ one c.write_optional-last-2.ensures.bytes c.write_optional-last-2.ensures.last c.write_optional-last-2.ensures.options in
    let three = more_so_far _ _ _ _ _ _ _ two c.write_optional-last-3.ensures.bytes c.write_optional-last-3.ensures.last c.write_optional-last-3.ensures.options in
    let four = more_so_far _ _ _ _ _ _ _ three c.write_optional-last-4.ensures.bytes c.write_optional-last-4.ensures.last c.write_optional-last-4.ensures.options in
    let five = more_so_far _ _ _ _ _ _ _ four c.write_optional-last-5.ensures.bytes c.write_optional-last-5.ensures.last c.write_optional-last-5.ensures.options in
    rw (sym c.etag_bytes.ensures, sym c.observe_bytes.ensures, sym c.format_bytes-format.ensures, sym c.block_bytes.ensures, sym c.block_bytes-2.ensures) five.are
