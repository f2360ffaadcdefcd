-- What writing a blob and then an entry leaves of the devices.
use Rattle.std.specs.Prelude.{◌≡◌, ◌⊎◌, ℕ, ◌≤◌, ◌<◌, List, [], ◌∷◌, ◌++◌, length, IfSome, Result, Ok, Err, IsOk, OnOk, refl}
use Rattle.std.proofs.Common.{sym, ◌∙◌, subst, inl, inr, arith}
use Rattle.std.proofs.lemmas.Result.{on_ok_weaker}
use Rattle.ddc_disk.specs.Disk.{Meaning, EachSince, Rests, IsSure, overwritten}
use Rattle.ddc_disk.specs.Images.{Images, together, devices_line, IsLent}
use Rattle.ddc_disk.specs.declared.devices.Devices.{Devices}
use Rattle.ddc_disk.specs.Lending.{blobs_lent, lent_now}
use Rattle.ddc_disk.specs.Since.{started, then_runs, weaker, torn_written}
use Rattle.ddc_disk.specs.Lending as lending
use Rattle.ddc_disk.specs.Told.{at_told}
use Rattle.ddc_journal.specs.Journal.{IsJournal}
use Rattle.ddc_journal.specs.Pairs.{PairView, taken, IsPairOf, IsOpenPair, IsPairReady}
use Rattle.ddc_model.specs.declared.rows.Extent.{Extent}
use Rattle.blob_store.specs.Bytes.{first_byte, LieIn, ChangesOnly, MayChange}
use Rattle.blob_store.specs.BytesLaws.{torn_changes_only}
use Rattle.ddc_opening.specs.Opening.{version}
use Rattle.ddc_book.specs.inside.Making.{with_bytes, Between}

-- ---- the blob file was lent

module _ (first second blobs lent : Meaning) (rests_first : Rests first.line) (rests_second : Rests second.line) (rests_blobs : Rests blobs.line) (is : IsLent blobs (together first second blobs) lent) where
  -- a disk that is lent is sure of what it was sure of
  pub sure_lent : (file : List ℕ) → IsSure blobs file → IsSure lent file
  sure_lent file sure = record { held = is.held ∙ sure.held; only = λ image now. sure.only image (lent_now blobs lent (together first second blobs) rests_blobs (omega arith) is image now) }

  -- the other devices rest while an extent is written
  pub blob_run : (new : Meaning) (place : Extent) (a b file : List ℕ) → IsSure first a → IsSure second b → IsSure blobs file → EachSince lent.line new.line (MayChange place lent.line)
      → EachSince (together first second blobs) (together first second new) (λ im. (im.first ≡ a) × (im.second ≡ b) × ChangesOnly place file im.blobs)
  blob_run new place a b file sure_first sure_second sure run =
      weaker (together first second blobs) (together first second new) _ (λ im. (im.first ≡ a) × (im.second ≡ b) × ChangesOnly place file im.blobs)
      (blobs_lent first second blobs rests_first rests_second rests_blobs lent new (MayChange place lent.line) is run) (λ im now. (
        sure_first.only im.first now.0,
        sure_second.only im.second now.1,
        subst (λ (f : List ℕ). ChangesOnly place f im.blobs) ((sure_lent file sure).only now.2.0 now.2.1) now.2.2,
      ))

  pub past_run : (new : Meaning) (P : List ℕ → Type 0) → EachSince lent.line new.line P → EachSince (together first second blobs) (together first second new) (λ _. Unit {0})
  past_run new P run = weaker (together first second blobs) (together first second new) _ (λ _. Unit {0}) (blobs_lent first second blobs rests_first rests_second rests_blobs lent new P is run) (λ im now. tt)

-- nothing is written
module _ (first second blobs : Meaning) (rests_first : Rests first.line) (rests_second : Rests second.line) (rests_blobs : Rests blobs.line) where
  pub none_run : (place : Extent) (a b file : List ℕ) → IsSure first a → IsSure second b → IsSure blobs file
      → EachSince (together first second blobs) (together first second blobs) (λ im. (im.first ≡ a) × (im.second ≡ b) × ChangesOnly place file im.blobs)
  none_run place a b file sure_first sure_second sure =
      started (together first second blobs) (λ im. (im.first ≡ a) × (im.second ≡ b) × ChangesOnly place file im.blobs)
      (lending.rests first second blobs rests_first rests_second rests_blobs) (λ im now.
      let each = lending.each_now first second blobs rests_first rests_second rests_blobs im now in (
        sure_first.only im.first each.0,
        sure_second.only im.second each.1,
        subst (λ (f : List ℕ). ChangesOnly place file f) (sym (sure.only im.blobs each.2)) (record { no_shorter = omega arith; outside = λ at inside not. refl }),
      ))

-- ---- the bytes were written, and then the entry

-- a write of bytes that lie in an extent changes only the extent
changes_written : (file : List ℕ) (place : Extent) (bytes : List ℕ) → LieIn place 0 (length bytes) → ChangesOnly place file (with_bytes file place bytes)
changes_written file place [] lie = record { no_shorter = omega arith; outside = λ at inside not. refl }
changes_written file place (b ∷ bs) lie = torn_changes_only place (length (b ∷ bs)) file (with_bytes file place (b ∷ bs)) lie (torn_written (first_byte place) file (b ∷ bs))

-- two files that are an open pair are a pair
pub pair_of : (a b : List ℕ) (pair : PairView) (bodies : List (List ℕ)) → pair.version ≡ version → IsOpenPair a b pair bodies → IsPairOf version bodies a b
pair_of a b pair bodies is opened = record { generation = pair.generation; loads = subst (λ (v : ℕ). IsJournal v pair.generation bodies (taken a b)) is opened.journal }

pub pair_alike : (bodies : List (List ℕ)) (a b c d : List ℕ) → c ≡ a → d ≡ b → IsPairOf version bodies a b → IsPairOf version bodies c d
pair_alike bodies a b c d first second is = subst (λ (p : List ℕ × List ℕ). IsPairOf version bodies p.0 p.1) (λ i. (sym first i, sym second i)) is

-- a pair stays ready where its devices stay
pub ready_still : {D : Type 0} (meaning : D → Meaning) (old new : Devices D) (pair : PairView) (bodies : List (List ℕ)) → new.first ≡ old.first → new.second ≡ old.second → IsPairReady meaning old pair bodies → IsPairReady meaning new pair bodies
ready_still {D} meaning old new pair bodies first second ready = record {
  first = ready.first;
  second = ready.second;
  first_sure = subst (λ (d : D). IsSure (meaning d) ready.first) (sym first) ready.first_sure;
  second_sure = subst (λ (d : D). IsSure (meaning d) ready.second) (sym second) ready.second_sure;
  opened = ready.opened;
}

module _ {D : Type 0} (meaning : D → Meaning) (rests : (d : D) → Rests (meaning d).line) (old mid : Devices D) (pair : PairView) (place : Extent) (bytes : List ℕ) (bodies : List (List ℕ)) (body file : List ℕ)
    (is : pair.version ≡ version) (ready : IsPairReady meaning old pair bodies) (sure : IsSure (meaning old.blobs) file) where
  abbrev written : List ℕ
  written = with_bytes file place bytes

  abbrev Meanwhile : Images → Type 0
  Meanwhile = Between bodies body file place bytes

  -- while the bytes are written
  module _ (blob_line : (a b c : List ℕ) → IsSure (meaning old.first) a → IsSure (meaning old.second) b → IsSure (meaning old.blobs) c
      → EachSince (devices_line meaning old) (devices_line meaning mid) (λ im. (im.first ≡ a) × (im.second ≡ b) × ChangesOnly place c im.blobs)) where
    pub between_blob : EachSince (devices_line meaning old) (devices_line meaning mid) (Between bodies body file place bytes)
    between_blob =
        weaker (devices_line meaning old) (devices_line meaning mid) _ Meanwhile (blob_line ready.first ready.second file ready.first_sure ready.second_sure sure)
        (λ im now. inl (pair_alike bodies ready.first ready.second im.first im.second now.0 now.1 (pair_of ready.first ready.second pair bodies is ready.opened), now.2))

    -- and then the entry
    module _ (new : Devices D) (lie : LieIn place 0 (length bytes)) (blobs : new.blobs ≡ mid.blobs) (has : IsSure (meaning mid.blobs) (with_bytes file place bytes))
        (append_line : EachSince (devices_line meaning mid) (devices_line meaning new) (λ im. IsPairOf pair.version bodies im.first im.second ⊎ IsPairOf pair.version (bodies ++ body ∷ []) im.first im.second)) where
      there : (t : ℕ) (im : Images) → (devices_line meaning mid).moment ≤ t → (devices_line meaning new).left t im → im.blobs ≡ written
      there t im le left =
          let at : (meaning mid.blobs).line.left t im.blobs = subst (λ (d : D). (meaning d).line.left t im.blobs) blobs left.2 in
          has.only im.blobs ((rests mid.blobs).stands t im.blobs (omega (arith, le)) at)

      either : (im : Images) → (IsPairOf pair.version bodies im.first im.second ⊎ IsPairOf pair.version (bodies ++ body ∷ []) im.first im.second) → im.blobs ≡ written → Meanwhile im
      either im (inl before) at = inl (
        subst (λ (v : ℕ). IsPairOf v bodies im.first im.second) is before,
        subst (λ (f : List ℕ). ChangesOnly place file f) (sym at) (changes_written file place bytes lie),
      )
      either im (inr after) at = inr (subst (λ (v : ℕ). IsPairOf v (bodies ++ body ∷ []) im.first im.second) is after, at)

      append_run : EachSince (devices_line meaning mid) (devices_line meaning new) Meanwhile
      append_run = record {
        later = append_line.later;
        keeps = append_line.keeps;
        past = append_line.past;
        each = λ t im le left. either im (append_line.each t im le left) (there t im le left);
      }

      pub between_both : EachSince (devices_line meaning old) (devices_line meaning new) (Between bodies body file place bytes)
      between_both = then_runs (devices_line meaning old) (devices_line meaning mid) (devices_line meaning new) Meanwhile Meanwhile between_blob append_run (λ im x. x)

-- ---- the bytes are sure

module _ {D E : Type 0} (meaning : D → Meaning) (first second blobs lent new : D) (rests : (d : D) → Rests (meaning d).line) (is : IsLent (meaning blobs) (together (meaning first) (meaning second) (meaning blobs)) (meaning lent))
    (place : Extent) (result : Result (Unit {0}) E) where
  -- once they are written, and where there are none
  pub fresh_sure : (bytes : List ℕ) → (0 < length bytes → OnOk result (IfSome (meaning lent).held (λ file. IsSure (meaning new) (overwritten file (first_byte place) bytes)))) → (bytes ≡ [] → IsOk result × (new ≡ lent))
      → OnOk result ((file : List ℕ) → IsSure (meaning blobs) file → IsSure (meaning new) (with_bytes file place bytes))
  fresh_sure [] durable empty = let nothing = empty refl in on_ok_always result (λ file sure. subst (λ (d : D). IsSure (meaning d) file) (sym nothing.1) (lent_sure file sure)) where
    lent_sure : (file : List ℕ) → IsSure (meaning blobs) file → IsSure (meaning lent) file
    lent_sure file sure = sure_lent (meaning first) (meaning second) (meaning blobs) (meaning lent) (rests first) (rests second) (rests blobs) is file sure

    on_ok_always : {P : Type 0} (r : Result (Unit {0}) E) → P → OnOk r P
    on_ok_always (Ok value) p = p
    on_ok_always (Err fault) p = tt
  fresh_sure (b ∷ bs) durable empty = on_ok_weaker result (λ all file sure. at_told (meaning lent).held (λ (f : List ℕ). IsSure (meaning new) (overwritten f (first_byte place) (b ∷ bs))) file (is.held ∙ sure.held) all) (durable (omega arith))
