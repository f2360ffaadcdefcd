use Rattle.collector.proofs.Turning.{shaded_from, shaded_covers}
use Rattle.collector.proofs.collection.Collection.shade.Goals as goal

pub returns-clause-shaded : goal.returns-clause-shaded
returns-clause-shaded c = shaded_from c.args.self.now c.number_for-number.new.self _ (record { kind = c.args.kind; hash = c.args.hash }) c.number_for-number.ensures.entered c.shade_number.ensures

pub returns-clause-cover : goal.returns-clause-cover
returns-clause-cover c =
    shaded_covers c.args.self.now c.shade_number.new.self (record { kind = c.args.kind; hash = c.args.hash })
    (shaded_from c.args.self.now c.number_for-number.new.self _ (record { kind = c.args.kind; hash = c.args.hash }) c.number_for-number.ensures.entered c.shade_number.ensures)
