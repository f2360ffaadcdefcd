-- Two files, of which one is lent.
use Rattle.std.proofs.Common.{◌≡◌, ℕ, ◌≤◌, List, sym, ◌∙◌, subst, arith}
use Rattle.std.specs.Prelude.{Bool, true, false, IsSome}
use Rattle.ddc_disk.specs.Disk.{Timeline, Meaning, Rests, IsImage, EachSince, IsSure}
use Rattle.ddc_disk.specs.Images.{Images, devices_line, IsLent}
use Rattle.ddc_disk.specs.Lending.{rests as all_rest, first_lent, second_lent, lent_now, each_now}
use Rattle.ddc_disk.specs.Since.{started, weaker}
use Rattle.ddc_disk.specs.declared.devices.Devices.{Devices}
use Rattle.ddc_journal.specs.Journal.{StandsAs}
use Rattle.ddc_journal.specs.inside.PairFiles.{device_of, other_of, OneChanges}

module _ {D : Type 0} (meaning : D → Meaning) (rests : (d : D) → Rests (meaning d).line) (old : Devices D) where
  abbrev line : Timeline Images
  line = devices_line meaning old

  -- a device that is lent has what it had
  same_sure : (d lent : D) → (meaning d).line.moment ≤ line.moment → IsLent (meaning d) line (meaning lent) → (file : List ℕ) → IsSure (meaning d) file → IsSure (meaning lent) file
  same_sure d lent le is file sure = record { held = is.held ∙ sure.held; only = λ image now. sure.only image (lent_now (meaning d) (meaning lent) line (rests d) le is image now) }

  same_stands : (d lent : D) → (meaning d).line.moment ≤ line.moment → IsLent (meaning d) line (meaning lent) → (version generation : ℕ) (bodies : List (List ℕ)) (end : ℕ) → StandsAs (meaning d) version generation bodies end → StandsAs (meaning lent) version generation bodies end
  same_stands d lent le is version generation bodies end stands = record {
    told = subst IsSome (sym is.held) stands.told;
    each = λ image now. stands.each image (lent_now (meaning d) (meaning lent) line (rests d) le is image now);
    place = stands.place;
  }

  -- no call was made
  pub idle : (P : Images → Type 0) → ((im : Images) → IsImage (meaning old.first).line im.first → IsImage (meaning old.second).line im.second → P im) → EachSince line line P
  idle P now =
      started line P (all_rest (meaning old.first) (meaning old.second) (meaning old.blobs) (rests old.first) (rests old.second) (rests old.blobs))
      (λ im is. let each = each_now (meaning old.first) (meaning old.second) (meaning old.blobs) (rests old.first) (rests old.second) (rests old.blobs) im is in now im each.0 each.1)

  module _ (lent : D) (is : IsLent (meaning old.first) line (meaning lent)) where
    pub first_sure : (second : Bool) → second ≡ false → (file : List ℕ) → IsSure (meaning (device_of second old)) file → IsSure (meaning lent) file
    first_sure false e file sure = same_sure old.first lent (omega arith) is file sure
    first_sure true e file sure = cc e

    pub first_stands : (second : Bool) → second ≡ false → (version generation : ℕ) (bodies : List (List ℕ)) (end : ℕ) → StandsAs (meaning (device_of second old)) version generation bodies end → StandsAs (meaning lent) version generation bodies end
    first_stands false e version generation bodies end stands = same_stands old.first lent (omega arith) is version generation bodies end stands
    first_stands true e version generation bodies end stands = cc e

    pub on_first : (second : Bool) → second ≡ false → (new : D) (P : List ℕ → Type 0) (other : List ℕ) → IsSure (meaning (other_of second old)) other → EachSince (meaning lent).line (meaning new).line P
        → EachSince line (devices_line meaning (record { first = new; second = old.second; blobs = old.blobs })) (OneChanges second P other)
    on_first false e new P other sure run =
        weaker line (devices_line meaning (record { first = new; second = old.second; blobs = old.blobs })) _ (OneChanges false P other)
        (first_lent (meaning old.first) (meaning old.second) (meaning old.blobs) (rests old.first) (rests old.second) (rests old.blobs) (meaning lent) (meaning new) P is run)
        (λ im left. (left.0, sure.only im.second left.1))
    on_first true e new P other sure run = cc e

  pub made_first : (second : Bool) → second ≡ false → (new : D) (P : Meaning → Type 0) → P (meaning new) → P (meaning (device_of second (record { first = new; second = old.second; blobs = old.blobs })))
  made_first false e new P is = is
  made_first true e new P is = cc e

  module _ (lent : D) (is : IsLent (meaning old.second) line (meaning lent)) where
    pub second_sure : (second : Bool) → second ≡ true → (file : List ℕ) → IsSure (meaning (device_of second old)) file → IsSure (meaning lent) file
    second_sure true e file sure = same_sure old.second lent (omega arith) is file sure
    second_sure false e file sure = cc e

    pub second_stands : (second : Bool) → second ≡ true → (version generation : ℕ) (bodies : List (List ℕ)) (end : ℕ) → StandsAs (meaning (device_of second old)) version generation bodies end → StandsAs (meaning lent) version generation bodies end
    second_stands true e version generation bodies end stands = same_stands old.second lent (omega arith) is version generation bodies end stands
    second_stands false e version generation bodies end stands = cc e

    pub on_second : (second : Bool) → second ≡ true → (new : D) (P : List ℕ → Type 0) (other : List ℕ) → IsSure (meaning (other_of second old)) other → EachSince (meaning lent).line (meaning new).line P
        → EachSince line (devices_line meaning (record { first = old.first; second = new; blobs = old.blobs })) (OneChanges second P other)
    on_second true e new P other sure run =
        weaker line (devices_line meaning (record { first = old.first; second = new; blobs = old.blobs })) _ (OneChanges true P other)
        (second_lent (meaning old.first) (meaning old.second) (meaning old.blobs) (rests old.first) (rests old.second) (rests old.blobs) (meaning lent) (meaning new) P is run)
        (λ im left. (sure.only im.first left.0, left.1))
    on_second false e new P other sure run = cc e

  pub made_second : (second : Bool) → second ≡ true → (new : D) (P : Meaning → Type 0) → P (meaning new) → P (meaning (device_of second (record { first = old.first; second = new; blobs = old.blobs })))
  made_second true e new P is = is
  made_second false e new P is = cc e
