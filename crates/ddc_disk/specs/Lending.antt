-- How the devices go on while one of them is lent: the two others rest.
use Rattle.std.specs.Prelude.{ℕ, ◌≤◌, List}
use Rattle.std.proofs.Common.{arith}
use Rattle.ddc_disk.specs.Disk.{Timeline, Meaning, IsImage, EachSince, Rests}
use Rattle.ddc_disk.specs.Images.{Images, together, IsLent}

module _ (first second blobs : Meaning) (rests_first : Rests first.line) (rests_second : Rests second.line) (rests_blobs : Rests blobs.line) where
  abbrev all : Timeline Images
  all = together first second blobs

  -- time alone changes nothing of the three
  pub rests : Rests all
  rests = record {
    stands = λ t im le left. (
      rests_first.lasts all.moment im.first (omega arith) (rests_first.stands t im.first (omega (arith, le)) left.0),
      rests_second.lasts all.moment im.second (omega arith) (rests_second.stands t im.second (omega (arith, le)) left.1),
      rests_blobs.lasts all.moment im.blobs (omega arith) (rests_blobs.stands t im.blobs (omega (arith, le)) left.2),
    );
    lasts = λ t im le now. (
      rests_first.lasts t im.first (omega (arith, le)) (rests_first.stands all.moment im.first (omega arith) now.0),
      rests_second.lasts t im.second (omega (arith, le)) (rests_second.stands all.moment im.second (omega arith) now.1),
      rests_blobs.lasts t im.blobs (omega (arith, le)) (rests_blobs.stands all.moment im.blobs (omega arith) now.2),
    );
  }

  -- an image of the three now is one of each now
  pub each_now : (im : Images) → IsImage all im → IsImage first.line im.first × IsImage second.line im.second × IsImage blobs.line im.blobs
  each_now im now = (
    rests_first.stands all.moment im.first (omega arith) now.0,
    rests_second.stands all.moment im.second (omega arith) now.1,
    rests_blobs.stands all.moment im.blobs (omega arith) now.2,
  )

  -- images of each now are one of the three
  pub all_now : (im : Images) → IsImage first.line im.first → IsImage second.line im.second → IsImage blobs.line im.blobs → IsImage all im
  all_now im now_first now_second now_blobs = (
    rests_first.lasts all.moment im.first (omega arith) now_first,
    rests_second.lasts all.moment im.second (omega arith) now_second,
    rests_blobs.lasts all.moment im.blobs (omega arith) now_blobs,
  )

  -- a run of calls on the first device, once it was lent
  pub first_lent : (lent new : Meaning) (P : List ℕ → Type 0) → IsLent first all lent → EachSince lent.line new.line P
      → EachSince all (together new second blobs) (λ im. P im.first × IsImage second.line im.second × IsImage blobs.line im.blobs)
  first_lent lent new P is run = record {
    later = omega (arith, run.later, is.latest);
    keeps = λ t im before left. (run.keeps t im.first (omega (arith, before, is.latest)) (is.stays t im.first left.0), left.1, left.2);
    past = λ t im before left. (is.left t im.first (run.past t im.first (omega (arith, before, is.latest)) left.0), left.1, left.2);
    each = λ t im after left. (
      run.each t im.first (omega (arith, after, is.latest)) left.0,
      rests_second.stands t im.second (omega (arith, after)) left.1,
      rests_blobs.stands t im.blobs (omega (arith, after)) left.2,
    );
  }

  -- the same of the second
  pub second_lent : (lent new : Meaning) (P : List ℕ → Type 0) → IsLent second all lent → EachSince lent.line new.line P
      → EachSince all (together first new blobs) (λ im. IsImage first.line im.first × P im.second × IsImage blobs.line im.blobs)
  second_lent lent new P is run = record {
    later = omega (arith, run.later, is.latest);
    keeps = λ t im before left. (left.0, run.keeps t im.second (omega (arith, before, is.latest)) (is.stays t im.second left.1), left.2);
    past = λ t im before left. (left.0, is.left t im.second (run.past t im.second (omega (arith, before, is.latest)) left.1), left.2);
    each = λ t im after left. (
      rests_first.stands t im.first (omega (arith, after)) left.0,
      run.each t im.second (omega (arith, after, is.latest)) left.1,
      rests_blobs.stands t im.blobs (omega (arith, after)) left.2,
    );
  }

  -- the same of the blob file
  pub blobs_lent : (lent new : Meaning) (P : List ℕ → Type 0) → IsLent blobs all lent → EachSince lent.line new.line P
      → EachSince all (together first second new) (λ im. IsImage first.line im.first × IsImage second.line im.second × P im.blobs)
  blobs_lent lent new P is run = record {
    later = omega (arith, run.later, is.latest);
    keeps = λ t im before left. (left.0, left.1, run.keeps t im.blobs (omega (arith, before, is.latest)) (is.stays t im.blobs left.2));
    past = λ t im before left. (left.0, left.1, is.left t im.blobs (run.past t im.blobs (omega (arith, before, is.latest)) left.2));
    each = λ t im after left. (
      rests_first.stands t im.first (omega (arith, after)) left.0,
      rests_second.stands t im.second (omega (arith, after)) left.1,
      run.each t im.blobs (omega (arith, after, is.latest)) left.2,
    );
  }

-- an image of a lent device now is one that it had before
pub lent_now : (old lent : Meaning) (all : Timeline Images) → Rests old.line → old.line.moment ≤ all.moment → IsLent old all lent → (image : List ℕ) → IsImage lent.line image → IsImage old.line image
lent_now old lent all rests le is image now = rests.stands lent.line.moment image (omega (arith, le, is.latest)) (is.left lent.line.moment image now)
