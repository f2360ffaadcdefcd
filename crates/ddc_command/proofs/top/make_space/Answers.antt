use Rattle.std.proofs.Common.{refl, ◌∙◌, ap, subst, List, ℕ, Result, Err}
use Rattle.std.specs.Io.KnownBytes.{Appends}
use Rattle.ddc_link.specs.Writes.{AppendsFront}
use Rattle.ddc_model.specs.declared.fault.StoreFault.{StoreFault}
use Rattle.ddc_service.specs.Effects.{effect}
use Rattle.ddc_command.specs.Ends.{made_line}
use Rattle.ddc_command.proofs.Making.{lacks_memory, makes_space, makes_untold, refuses_space}
use Rattle.ddc_command.proofs.top.make_space.Goals as goal

pub returns-in_default-clause-ends : goal.returns-in_default-clause-ends
returns-in_default-clause-ends g c = λ old found.
    lacks_memory g.D.Disk.tells g.D.Disk.meaning old c.args.book c.args.space.now c.args.ttl c.args.pin found c.one_opening.ensures.opening c.one_opening.ensures.exclusive c.one_pair_reading.ensures.none
    (g.W.Sink.written c.args.sink.now) (g.W.Sink.faults c.args.sink.now) c.into_devices.result c.into_devices.ensures.devices c.into_devices.ensures.opened

pub returns-in-Err-clause-ends : goal.returns-in-Err-clause-ends
returns-in-Err-clause-ends g c = λ old found.
    let refused : StoreFault → Result (Unit {0}) StoreFault = λ f. Err f in
    refuses_space g.D.Disk.tells g.D.Disk.meaning old c.args.book c.args.space.now c.args.ttl c.args.pin found c.one_opening.ensures.opening c.one_opening.ensures.exclusive c.one_pair_reading.ensures.none c.set_space.new.self c.set_space.ensures.goes_on
    (effect g.W.Sink.written g.W.Sink.faults c.args.sink.now c.args.sink.now)
    c.in-Err.fault (refl, refl) c.into_devices-in-Err.result c.into_devices-in-Err.ensures.devices c.into_devices-in-Err.ensures.opened c.in-Err.ensures.gives (λ e. c.in-Err.ensures.cause (ap refused e))

pub returns-in-Ok-put_all-clause-ends : goal.returns-in-Ok-put_all-clause-ends
returns-in-Ok-put_all-clause-ends g c = λ old found.
    let line : List ℕ → List ℕ = λ space. made_line space c.args.ttl c.args.pin in
    let text = c.as_bytes.ensures.value ∙ c.in-Ok.ensures ∙ ap line c.as_str.ensures.text in
    let P : List ℕ → Type 0 = λ t. Appends (g.W.Sink.written c.args.sink.now) (g.W.Sink.written c.put_all.new.sink) t in
    makes_space g.D.Disk.tells g.D.Disk.meaning old c.args.book c.args.space.now c.args.ttl c.args.pin found c.one_opening.ensures.opening c.one_opening.ensures.exclusive c.one_pair_reading.ensures.none c.set_space.new.self c.set_space.ensures.goes_on
    (effect g.W.Sink.written g.W.Sink.faults c.args.sink.now c.put_all.new.sink)
    c.into_devices-in-Ok-put_all.result c.into_devices-in-Ok-put_all.ensures.devices c.into_devices-in-Ok-put_all.ensures.opened c.in_default-set_space.ensures.gives (subst P text c.in-Ok-put_all.ensures.ok) c.in-Ok-put_all.ensures.cause.same

pub returns-clause-ends : goal.returns-clause-ends
returns-clause-ends g c = λ old found.
    let line : List ℕ → List ℕ = λ space. made_line space c.args.ttl c.args.pin in
    let text = c.as_bytes.ensures.value ∙ c.in-Ok.ensures ∙ ap line c.as_str.ensures.text in
    let P : List ℕ → Type 0 = λ t. AppendsFront (g.W.Sink.written c.args.sink.now) (g.W.Sink.written c.put_all.new.sink) t in
    makes_untold g.D.Disk.tells g.D.Disk.meaning old c.args.book c.args.space.now c.args.ttl c.args.pin found c.one_opening.ensures.opening c.one_opening.ensures.exclusive c.one_pair_reading.ensures.none c.set_space.new.self c.set_space.ensures.goes_on
    (effect g.W.Sink.written g.W.Sink.faults c.args.sink.now c.put_all.new.sink)
    c.into_devices-in-Err-put_all.result c.into_devices-in-Err-put_all.ensures.devices c.into_devices-in-Err-put_all.ensures.opened c.in_default-set_space.ensures.gives
    (subst P text c.in-Err-put_all.ensures.err) c.in-Err-put_all.ensures.cause.failed
