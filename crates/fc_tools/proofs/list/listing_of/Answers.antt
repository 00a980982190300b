use Rattle.std.proofs.Common.{ap, ◌∙◌}
use Rattle.fc_asm.specs.Listing.{listing}
use Rattle.fc_tools.proofs.list.listing_of.Goals as goal

pub returns : goal.returns
returns c = record {
  head = c.in_ok-head.ensures.head.fault;
  program = c.in_ok-program.program.items;
  spelled = c.in_ok-program.ensures.code.spelled;
  listed = c.in_ok-disassemble.ensures ∙ ap listing c.deref.ensures.value;
}
