use Rattle.std.proofs.Common.{◌≡◌, ◌⊎◌, ◌<◌, ◌^◌, ◌∷◌, [], List, ℕ, refl, ◌∙◌, arith, inl, inr}
use Rattle.ddc_disk.specs.Disk.{IsImage, EachImage, IsSure}
use Rattle.ddc_disk.specs.Since.{then_runs, one_call}
use Rattle.ddc_disk.specs.Told.{at_told}
use Rattle.ddc_journal.specs.Journal.{single_version, NotMadeOrEmpty}
use Rattle.ddc_journal.specs.inside.Closing.{AreItems, IsRemade, IsUnmade}
use Rattle.ddc_journal.proofs.Ranks.{rank_unmade, unmade_rank}
use Rattle.ddc_journal.proofs.Making.{if_told, stands_sure}
use Rattle.ddc_journal.proofs.create.make.Goals as goal

none : (generation : ℕ) → 0 < generation → generation < 2 ^ 64 → AreItems generation [] (0 ∷ [])
none generation pos fits = record { split = refl; numbered = (pos, fits); sized = tt }

empty : (generation : ℕ) (old image : List ℕ) → IsUnmade old → IsRemade single_version generation [] old image → NotMadeOrEmpty generation image
empty generation old image unmade (inl le) = inl (unmade_rank image (omega (arith, le, rank_unmade old unmade)))
empty generation old image unmade (inr journal) = inr journal

pub returns-in_err-sync-clause-any_moment : goal.returns-in_err-sync-clause-any_moment
returns-in_err-sync-clause-any_moment g c pos fits = if_told (g.D.Disk.meaning c.args.disk.now).held _ (λ file held unmade.
    let old = g.D.Disk.meaning c.args.disk.now in
    let s = g.D.Disk.meaning c.sync.new.self in
    let P : List ℕ → Type 0 = λ image. IsImage old.line image ⊎ NotMadeOrEmpty c.args.generation image in
    one_call old.line s.line P (g.met.D.Disk.rests c.args.disk.now) (λ image now. inl now) c.sync.ensures.time (λ image now. inl (c.sync.ensures.calm image now)))

pub returns-in_err-remake-clause-any_moment : goal.returns-in_err-remake-clause-any_moment
returns-in_err-remake-clause-any_moment g c pos fits = if_told (g.D.Disk.meaning c.args.disk.now).held _ (λ file held unmade.
    let old = g.D.Disk.meaning c.args.disk.now in
    let s = g.D.Disk.meaning c.sync.new.self in
    let new = g.D.Disk.meaning c.remake.new.disk in
    let P : List ℕ → Type 0 = λ image. IsImage old.line image ⊎ NotMadeOrEmpty c.args.generation image in
    let first = one_call old.line s.line P (g.met.D.Disk.rests c.args.disk.now) (λ image now. inl now) c.sync.ensures.time (λ image now. inl (c.sync.ensures.calm image now)) in
    let sure_s : IsSure s file = record { held = c.sync.ensures.held ∙ held; only = at_told old.held (λ f. EachImage s.line (λ image. image ≡ f)) file held c.in_ok-sync.ensures.durable } in
    then_runs old.line s.line new.line P _ first (c.remake.ensures.any_moment file [] sure_s (none c.args.generation pos fits)) (λ image is. inr (empty c.args.generation file image unmade is)))

pub returns-clause-any_moment : goal.returns-clause-any_moment
returns-clause-any_moment g c pos fits = if_told (g.D.Disk.meaning c.args.disk.now).held _ (λ file held unmade.
    let old = g.D.Disk.meaning c.args.disk.now in
    let s = g.D.Disk.meaning c.sync.new.self in
    let new = g.D.Disk.meaning c.remake.new.disk in
    let P : List ℕ → Type 0 = λ image. IsImage old.line image ⊎ NotMadeOrEmpty c.args.generation image in
    let first = one_call old.line s.line P (g.met.D.Disk.rests c.args.disk.now) (λ image now. inl now) c.sync.ensures.time (λ image now. inl (c.sync.ensures.calm image now)) in
    let sure_s : IsSure s file = record { held = c.sync.ensures.held ∙ held; only = at_told old.held (λ f. EachImage s.line (λ image. image ≡ f)) file held c.in_ok-sync.ensures.durable } in
    then_runs old.line s.line new.line P _ first (c.remake.ensures.any_moment file [] sure_s (none c.args.generation pos fits)) (λ image is. inr (empty c.args.generation file image unmade is)))

pub returns-clause-ready : goal.returns-clause-ready
returns-clause-ready g c pos fits = if_told (g.D.Disk.meaning c.args.disk.now).held _ (λ file held.
    let old = g.D.Disk.meaning c.args.disk.now in
    let s = g.D.Disk.meaning c.sync.new.self in
    let new = g.D.Disk.meaning c.remake.new.disk in
    let sure_s : IsSure s file = record { held = c.sync.ensures.held ∙ held; only = at_told old.held (λ f. EachImage s.line (λ image. image ≡ f)) file held c.in_ok-sync.ensures.durable } in
    stands_sure new single_version c.args.generation [] 21 (c.in_ok-remake.ensures.made file [] sure_s (none c.args.generation pos fits)) refl)
