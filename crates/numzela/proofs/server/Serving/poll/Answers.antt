use Rattle.numzela.proofs.server.Serving.poll.Goals as goal

pub returns-clause-polled : goal.returns-clause-polled
returns-clause-polled c = record {
  handed = c.set_handed.new.self;
  same = c.set_handed.ensures.engine;
  with = c.set_handed.ensures.handed;
  flushed = c.flush.ensures.flushed;
}
