-- How a run of calls goes on.
use Rattle.std.specs.Prelude.{◌≡◌, ℕ, ◌+◌, List, ◌++◌, length, take, drop, replicate, ◌-◌}
use Rattle.std.proofs.Common.{⊎_elim, sym, ◌∙◌, ap, arith, append_assoc, take-append-drop, length-append, length-drop}
use Rattle.std.proofs.lemmas.Bool.{cases_lt}
use Rattle.std.proofs.lemmas.List.{drop-drop, length-take, length-replicate}
use Rattle.ddc_disk.specs.Disk.{Timeline, Torn, Tears, Continues, Rests, EachSince, EachImage, MayTear, overwritten}

-- before the first call
pub started : {I : Type 0} (line : Timeline I) (P : I → Type 0) → Rests line → EachImage line P → EachSince line line P
started line P rests now = record {
  later = omega arith;
  keeps = λ t image le left. left;
  past = λ t image le left. left;
  each = λ t image le left. now image (rests.stands t image le left);
}

-- one call more, after which each image has P
pub goes_on : {I : Type 0} (old mid new : Timeline I) (P : I → Type 0) → EachSince old mid P → Continues mid new → EachImage new P → EachSince old new P
goes_on old mid new P so_far call now = record {
  later = omega (arith, so_far.later, call.later);
  keeps = λ t image le left. call.keeps t image (omega (arith, le, so_far.later)) (so_far.keeps t image le left);
  past = λ t image le left. so_far.past t image le (call.past t image (omega (arith, le, so_far.later)) left);
  each = λ t image le left. ⊎_elim (λ late. now image (call.during t image late left)) (λ early. so_far.each t image le (call.past t image early left)) (cases_lt mid.moment t);
}

-- one call alone
pub one_call : {I : Type 0} (old new : Timeline I) (P : I → Type 0) → Rests old → EachImage old P → Continues old new → EachImage new P → EachSince old new P
one_call old new P rests before call now = goes_on old old new P (started old P rests before) call now

-- two runs
pub then_runs : {I : Type 0} (old mid new : Timeline I) (P Q : I → Type 0) → EachSince old mid P → EachSince mid new Q → ((image : I) → Q image → P image) → EachSince old new P
then_runs old mid new P Q first second imp = record {
  later = omega (arith, first.later, second.later);
  keeps = λ t image le left. second.keeps t image (omega (arith, le, first.later)) (first.keeps t image le left);
  past = λ t image le left. first.past t image le (second.past t image (omega (arith, le, first.later)) left);
  each = λ t image le left. ⊎_elim (λ late. imp image (second.each t image (omega (arith, late)) left)) (λ early. first.each t image le (second.past t image early left)) (cases_lt mid.moment t);
}

-- what is weaker holds too
pub weaker : {I : Type 0} (old new : Timeline I) (P Q : I → Type 0) → EachSince old new P → ((image : I) → P image → Q image) → EachSince old new Q
weaker old new P Q run imp = record { later = run.later; keeps = run.keeps; past = run.past; each = λ t image le left. imp image (run.each t image le left) }

-- a write that changes nothing is one of those that a crash may leave
pub torn_not : (at n : ℕ) (file : List ℕ) → Torn at n file file
torn_not at n file = record {
  middle = take n (drop at file);
  parts =
      sym (take-append-drop at file) ∙ ap (λ (l : List ℕ). take at file ++ l) (sym (take-append-drop n (drop at file)))
      ∙ ap (λ (l : List ℕ). take at file ++ (take n (drop at file) ++ l)) (drop-drop n at file) ∙ sym (append_assoc (take at file) (take n (drop at file)) (drop (at + n) file));
  no_shorter = omega arith;
  no_longer = omega arith;
}

-- so is one that has its effect
module _ (at : ℕ) (file bytes : List ℕ) where
  abbrev gap : List ℕ
  gap = replicate {A = ℕ} (at - length file) 0

  abbrev tail : List ℕ
  tail = drop (at + length bytes) file

  length-overwritten : length (overwritten file at bytes) ≡ length (take at file) + length gap + length bytes + length tail
  length-overwritten = omega (arith, length-append (take at file ++ gap ++ bytes) tail, length-append (take at file ++ gap) bytes, length-append (take at file) gap)

  pub torn_written : Torn at (length bytes) file (overwritten file at bytes)
  torn_written = record {
    middle = gap ++ bytes;
    parts = ap (λ (l : List ℕ). l ++ tail) (append_assoc (take at file) gap bytes);
    no_shorter = omega (arith, length-overwritten, length-take at file, length-drop (at + length bytes) file, length-replicate {A = ℕ} (at - length file) 0);
    no_longer = omega (arith, length-overwritten, length-take at file, length-drop (at + length bytes) file, length-replicate {A = ℕ} (at - length file) 0);
  }

-- one write, and nothing else
pub tears_once : (old new : Timeline (List ℕ)) (at n : ℕ) → Rests old → Tears at n old new → Continues old new → EachSince old new (MayTear at n old)
tears_once old new at n rests tears call = one_call old new (MayTear at n old) rests (λ image now. (image, now, torn_not at n image)) call tears
