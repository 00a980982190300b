use Rattle.std.proofs.Common.{◌++◌, ℕ, List, ap, ◌∙◌, length}
use Rattle.std.specs.Prelude.{drop, replicate}
use Rattle.std.proofs.lemmas.List.{drop-replicate}
use Rattle.fc_tools.proofs.run_options.padded.Goals as goal

pub returns : goal.returns
returns c =
    let given = c.args.bytes.now in
    ap (λ (xs : List ℕ). xs ++ drop (length given) (replicate 64 0)) c.copy_from_slice.ensures.after
    ∙ ap (λ (rest : List ℕ). given ++ rest) (drop-replicate (length given) 64 0)
