use Rattle.std.proofs.Common.{◌+◌, List, length, sym, ap, ◌∙◌, subst, arith}
use Rattle.fc_book.specs.declared.entry.CallEntry.{CallEntry}
use Rattle.fc_book.specs.declared.view.BookView.{BookView}
use Rattle.fc_book.specs.Counters.{AreCounted, IsThread, call_of}
use Rattle.fc_book.specs.Calls.{keys_of}
use Rattle.fc_book.proofs.Keys.{keeps-key}
use Rattle.fc_book.proofs.Counted.{counted-more, length-more}
use Rattle.fc_book.proofs.counter.CallCounter.count.Goals as goal

pub invariant_of-self : goal.invariant_of-self
invariant_of-self g c =
    let e : CallEntry = call_of g.row.KEY c.args.who c.self.inside.count in
    let is = c.file.ensures.part in
    let i = c.self.invariant in (
      (ap (λ n. n + 1) i.0 ∙ sym (length-more c.self.inside.track e)) ∙ sym (ap (λ (l : List CallEntry). length l) is),
      subst (λ (l : List CallEntry). AreCounted g.row.KEY 0 l) (sym is)
          (counted-more g.row.KEY 0 c.self.inside.track e i.1 (ap (λ n. call_of g.row.KEY c.args.who n) (omega (arith, i.0))) c.requires.key),
    )

pub returns-clause-thread : goal.returns-clause-thread
returns-clause-thread g c = subst (λ (v : BookView CallEntry). IsThread c.args.who v) (sym c.file.ensures.own) (keeps-key keys_of c.args.who _ c.args.tracks.now.own c.requires.thread)
