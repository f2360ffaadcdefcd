use Rattle.ddc_command.proofs.top.init.Goals as goal

pub returns-in-Ok-clause-ends : goal.returns-in-Ok-clause-ends
returns-in-Ok-clause-ends g c = c.make_space.ensures.ends c.args.devices c.in-Ok.ensures.found

pub returns-in-Err-clause-ends : goal.returns-in-Err-clause-ends
returns-in-Err-clause-ends g c = c.in-Err.ensures.fails.ends (g.W.Sink.written c.args.sink.now) (g.W.Sink.faults c.args.sink.now) c.args.space.now c.args.ttl c.args.pin
