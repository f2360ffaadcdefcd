use Rattle.std.proofs.Common.{ap, sym, ◌∙◌, [], None, ℕ, refl}
use Rattle.ddc_model.specs.declared.entry.Entry.TheVariants.{Space}
use Rattle.ddc_model.specs.Commands.{SpaceAs}
use Rattle.ddc_book.specs.inside.Making.{full_by}
use Rattle.ddc_book.proofs.Giving.{refuses, gives, made_where, refused_where}
use Rattle.ddc_book.proofs.Fitting.{space_fit}
use Rattle.ddc_book.proofs.book.Book.set_space.Goals as goal

pub returns-in-Some-full-clause-gives : goal.returns-in-Some-full-clause-gives
returns-in-Some-full-clause-gives g c =
    let old = c.args.self.now in
    let s = old.cache.index in
    refuses g.D.Disk.meaning old old [] (SpaceAs s c.args.space c.args.ttl c.args.pin) (sym c.in_default.ensures.count) c.in_default.ensures.still.stays c.in-Some-full.fault c.in-Some-full.ensures.refusal
    (refused_where s (Space c.args.space c.args.ttl c.args.pin) c.in-Some-full.fault (ap (λ (n : ℕ). full_by s n None 0) (sym c.added_spaces.ensures) ∙ sym c.in-Some-full.ensures.fault))

pub returns-in-Some-full-clause-goes_on : goal.returns-in-Some-full-clause-goes_on
returns-in-Some-full-clause-goes_on g c = c.in_default.ensures.still.goes []

pub make-requires-clause-fit : goal.make-requires-clause-fit
make-requires-clause-fit g c =
    let s = c.args.self.now.cache.index in
    λ room. space_fit c.args.self.now.cache (c.in_default.ensures.serves (sym c.in_default.ensures.count)).whole c.args.space c.args.ttl c.args.pin c.requires.ttl c.requires.pin
    (made_where s (Space c.args.space c.args.ttl c.args.pin) (ap (λ (n : ℕ). full_by s n None 0) (sym c.added_spaces.ensures) ∙ sym c.in_default-full.ensures.fault))

pub returns-clause-gives : goal.returns-clause-gives
returns-clause-gives g c =
    let s = c.args.self.now.cache.index in
    gives g.D.Disk.meaning c.args.self.now c.make.new.self [] (Space c.args.space c.args.ttl c.args.pin) tt (SpaceAs s c.args.space c.args.ttl c.args.pin)
    (made_where s (Space c.args.space c.args.ttl c.args.pin) (ap (λ (n : ℕ). full_by s n None 0) (sym c.added_spaces.ensures) ∙ sym c.in_default-full.ensures.fault))
    [] refl c.make.result c.make.ensures.gives
