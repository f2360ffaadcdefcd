use Rattle.std.proofs.Common.{◌≡◌, ◌⊎◌, ◌+◌, ◌∷◌, ◌++◌, [], ℕ, List, length, length-append, sym, ◌∙◌, ap, subst, arith, inl}
use Rattle.std.specs.Prelude.{Result, Ok, Err, OnOk, not, false}
use Rattle.std.specs.Result.{is_err}
use Rattle.ddc_disk.specs.Disk.{EachSince}
use Rattle.ddc_disk.specs.Images.{devices_line}
use Rattle.ddc_disk.specs.Since.{weaker}
use Rattle.ddc_journal.specs.Journal.{items}
use Rattle.ddc_journal.specs.Pairs.{IsPairOf, IsPairReady, PairView}
use Rattle.ddc_journal.specs.inside.Closing.{AreItems}
use Rattle.ddc_journal.proofs.PairLent.{idle}
use Rattle.ddc_journal.proofs.Pairing.{checkpoint_either, file_of, passive_sure, rest_sure, still_pair, turned}
use Rattle.ddc_journal.proofs.pair.Pair.checkpoint.Goals as goal

when_ok : {T E : Type 0} (r : Result T E) (P : Type 0) → is_err r ≡ false → OnOk r P → P
when_ok (Ok x) P ok holds = holds
when_ok (Err e) P ok holds = cc ok

pub returns-then-self-clause-any_moment : goal.returns-then-self-clause-any_moment
returns-then-self-clause-any_moment g c olds ready =
    let m = g.D.Disk.meaning in
    let old = c.args.devices.now in
    let pair = c.args.self.now in
    idle m g.met.D.Disk.rests old (λ im. IsPairOf pair.version olds im.first im.second ⊎ IsPairOf c.args.version c.args.bodies.now im.first im.second)
    (λ im first second. inl (still_pair m old pair olds ready im first second))

pub returns-in_default-clause-any_moment : goal.returns-in_default-clause-any_moment
returns-in_default-clause-any_moment g c olds ready =
    let m = g.D.Disk.meaning in
    let old = c.args.devices.now in
    let pair = c.args.self.now in
    idle m g.met.D.Disk.rests old (λ im. IsPairOf pair.version olds im.first im.second ⊎ IsPairOf c.args.version c.args.bodies.now im.first im.second)
    (λ im first second. inl (still_pair m old pair olds ready im first second))

pub returns-then-is_err-clause-any_moment : goal.returns-then-is_err-clause-any_moment
returns-then-is_err-clause-any_moment g c olds ready =
    let m = g.D.Disk.meaning in
    let old = c.args.devices.now in
    let new = c.remake_file.new.devices in
    let news = c.args.bodies.now in
    let seen : PairView = record { second = c.self.inside.second; version = c.self.inside.version; generation = c.self.inside.generation; end = c.self.inside.end } in
    let same : c.args.self.now ≡ seen = sym c.self.view_is in
    let are : AreItems (seen.generation + 1) news c.deref.result.now = record {
      split = c.deref.ensures.value ∙ c.in-Ok.ensures ∙ ap (λ (l : List (List ℕ)). items l ++ 0 ∷ []) c.as_slice.ensures;
      numbered = (omega arith, omega (arith, c.if-self.false, c.self.ranges.1.1.0.1));
      sized = c.requires.sized;
    } in
    subst (λ (p : PairView). IsPairReady m old p olds → EachSince (devices_line m old) (devices_line m new) (λ im. IsPairOf p.version olds im.first im.second ⊎ IsPairOf c.args.version news im.first im.second)) (sym same)
    (λ at. weaker (devices_line m old) (devices_line m new) _ (λ im. IsPairOf seen.version olds im.first im.second ⊎ IsPairOf c.args.version news im.first im.second)
    (c.remake_file.ensures.any_moment (file_of (not seen.second) at.first at.second) (file_of seen.second at.first at.second) news (passive_sure m old seen olds at) (rest_sure m old seen olds at) are)
    (checkpoint_either m old seen olds at c.args.version news)) ready

pub returns-clause-any_moment : goal.returns-clause-any_moment
returns-clause-any_moment g c olds ready =
    let m = g.D.Disk.meaning in
    let old = c.args.devices.now in
    let new = c.remake_file.new.devices in
    let news = c.args.bodies.now in
    let seen : PairView = record { second = c.self.inside.second; version = c.self.inside.version; generation = c.self.inside.generation; end = c.self.inside.end } in
    let same : c.args.self.now ≡ seen = sym c.self.view_is in
    let are : AreItems (seen.generation + 1) news c.deref.result.now = record {
      split = c.deref.ensures.value ∙ c.in-Ok.ensures ∙ ap (λ (l : List (List ℕ)). items l ++ 0 ∷ []) c.as_slice.ensures;
      numbered = (omega arith, omega (arith, c.if-self.false, c.self.ranges.1.1.0.1));
      sized = c.requires.sized;
    } in
    subst (λ (p : PairView). IsPairReady m old p olds → EachSince (devices_line m old) (devices_line m new) (λ im. IsPairOf p.version olds im.first im.second ⊎ IsPairOf c.args.version news im.first im.second)) (sym same)
    (λ at. weaker (devices_line m old) (devices_line m new) _ (λ im. IsPairOf seen.version olds im.first im.second ⊎ IsPairOf c.args.version news im.first im.second)
    (c.remake_file.ensures.any_moment (file_of (not seen.second) at.first at.second) (file_of seen.second at.first at.second) news (passive_sure m old seen olds at) (rest_sure m old seen olds at) are)
    (checkpoint_either m old seen olds at c.args.version news)) ready

pub returns-clause-ready : goal.returns-clause-ready
returns-clause-ready g c olds ready fits =
    let m = g.D.Disk.meaning in
    let old = c.args.devices.now in
    let new = c.remake_file.new.devices in
    let news = c.args.bodies.now in
    let seen : PairView = record { second = c.self.inside.second; version = c.self.inside.version; generation = c.self.inside.generation; end = c.self.inside.end } in
    let same : c.args.self.now ≡ seen = sym c.self.view_is in
    let are : AreItems (seen.generation + 1) news c.deref.result.now = record {
      split = c.deref.ensures.value ∙ c.in-Ok.ensures ∙ ap (λ (l : List (List ℕ)). items l ++ 0 ∷ []) c.as_slice.ensures;
      numbered = (omega arith, omega (arith, c.if-self.false, c.self.ranges.1.1.0.1));
      sized = c.requires.sized;
    } in
    let at : IsPairReady m old seen olds = subst (λ (p : PairView). IsPairReady m old p olds) same ready in
    let made = when_ok c.remake_file.result _ (sym c.if-is_err.ensures.value) c.remake_file.ensures.made (file_of (not seen.second) at.first at.second) news (passive_sure m old seen olds at) are in
    turned m old seen olds at c.args.version news new (20 + c.len.result) c.remake_file.ensures.other made
    (omega (arith, c.len.ensures, ap length c.in-Ok.ensures, ap (λ (l : List (List ℕ)). length (items l)) c.as_slice.ensures, length-append (items c.as_slice.result.now) (0 ∷ [])))
