-- The text of a receipt.
use Rattle.std.specs.Prelude.{ℕ, ◌++◌, List, codes}
use Rattle.std.specs.Fmt.{decimal}
use Rattle.fc_ticket.specs.declared.receipt.Receipt.{Receipt}

-- the text of a receipt: its numbers in decimal, each after its name.
abbrev pub receipt_text : Receipt → List ℕ
receipt_text r = codes "version=" ++ (decimal r.version ++ (codes " cost=" ++ (decimal r.cost ++ (codes " budget=" ++ (decimal r.budget ++ (codes " vars=" ++ decimal r.vars))))))
