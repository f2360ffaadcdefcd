use Rattle.std.proofs.Common.{rules, ◌≡◌, ◌≢◌, ◌<◌, ◌∙◌, ap, subst, sym, take, ℕ, arith, length, length-drop, refl, inr}
use Rattle.std.specs.Prelude.{slice_index}
use Rattle.ddc_journal.specs.Journal.{magic, version_in, generation_in}
use Rattle.ddc_journal.specs.Faults.{IsKnown}
use Rattle.ddc_journal.proofs.Ranks.{made}
use Rattle.ddc_journal.proofs.Reading.{opens}
use Rattle.ddc_journal.proofs.parse.open_items.Goals as goal

pub returns-then-is_empty-clause-fault : goal.returns-then-is_empty-clause-fault
returns-then-is_empty-clause-fault c =
    let b = c.args.bytes.now in
    let one : slice_index b 20 ≡ 1 = omega (arith, c.in-Some.ensures.gate, c.if-head-ne1.false) in
    let numbered : ◌≢◌ {A = ℕ} (generation_in b) 0 = λ e. absurd (c.if-head-eq0.false (c.in-Some.ensures.generation ∙ e)) in
    let known : IsKnown c.args.kind (version_in b) = (omega (arith, c.in-Some.ensures.version, c.if-found-kind.false), omega (arith, c.in-Some.ensures.version, c.if-found-kind-2.false)) in
    let first : take 8 b ≡ magic = sym c.in-Some.ensures.magic ∙ search rules in
    let none : length c.in-Some.head.items.now ≡ 0 = search rules in
    (made b one numbered, refl, inr (refl, (first, known), omega (arith, none, ap length c.in-Some.ensures.items, length-drop 21 b, c.in-Some.ensures.long)))

pub returns-clause-items : goal.returns-clause-items
returns-clause-items c =
    let b = c.args.bytes.now in
    let head = c.in-Some.head in
    let one : head.gate ≡ 1 = omega (arith, c.if-head-ne1.false) in
    let known : IsKnown c.args.kind head.version = (omega (arith, c.if-found-kind.false), omega (arith, c.if-found-kind-2.false)) in
    let first : head.magic.now ≡ magic = search rules in
    let numbered : ◌≢◌ {A = ℕ} head.generation 0 = c.if-head-eq0.false in
    record {
      split = opens b head.items.now head.version head.generation head.gate (c.in-Some.ensures.known first) c.in-Some.ensures.version c.in-Some.ensures.generation c.in-Some.ensures.gate one c.in-Some.ensures.items c.in-Some.ensures.long;
      known = subst (IsKnown c.args.kind) c.in-Some.ensures.version known;
      numbered = (omega (arith, numbered, c.in-Some.ensures.generation), omega (arith, c.in-Some.ensures.fits, c.in-Some.ensures.generation));
      some = search rules;
    }

pub returns-clause-long : goal.returns-clause-long
returns-clause-long c =
    let some : 0 < length c.in-Some.head.items.now = search rules in
    omega (arith, some, ap length c.in-Some.ensures.items, length-drop 21 c.args.bytes.now)
