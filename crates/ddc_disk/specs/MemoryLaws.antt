-- What holds of every history of a disk in memory.
use Rattle.std.specs.Prelude.{IsTrue, ◌&&◌, ◌≡◌, ◌≤◌, ◌<◌, ◌^◌, ◌++◌, ℕ, Bool, true, false, nat_le, if◌then◌else◌, List, [], ◌∷◌, length, Some, ◌+◌}
use Rattle.std.proofs.Common.{refl, sym, ◌∙◌, ap, subst, arith, inl, inr}
use Rattle.std.proofs.lemmas.Bool.Decides.{leb_tells}
use Rattle.ddc_disk.specs.Disk.{Rests, IsImage}
use Rattle.ddc_disk.specs.Since.{torn_not, torn_written}
use Rattle.ddc_disk.specs.declared.call.DiskCall.{DiskCall}
use Rattle.ddc_disk.specs.declared.call.CallKind.{CallKind}
use Rattle.ddc_disk.specs.declared.call.CallKind.TheVariants.{Write, Sync, Look}
use Rattle.ddc_disk.specs.Memory.{MemoryState, fresh, after_call, after_calls, calls_by, IsCrash, MemoryHistory, memory_meaning, reads_now, failures, all_by}

-- what a read gives is an image
reads_once : (s : MemoryState) (what : CallKind) (done : Bool) → IsCrash s s.reads → IsCrash (after_call s what done) (after_call s what done).reads
reads_once s (Write at bytes) true image = (s.reads, image, torn_written at s.reads bytes)
reads_once s (Write at bytes) false image = (s.reads, image, torn_not at (length bytes) s.reads)
reads_once s Sync true image = refl
reads_once s Sync false image = image
reads_once s Look done image = image

pub reads_image : (s : MemoryState) (calls : List DiskCall) → IsCrash s s.reads → IsCrash (after_calls s calls) (after_calls s calls).reads
reads_image s [] image = image
reads_image s (call ∷ calls) image = reads_image (after_call s call.what call.done) calls (reads_once s call.what call.done image)

-- the last call is made of what the others left
pub after_last : (s : MemoryState) (calls : List DiskCall) (call : DiskCall) → after_calls s (calls ++ call ∷ []) ≡ after_call (after_calls s calls) call.what call.done
after_last s [] call = refl
after_last s (c ∷ calls) call = after_last (after_call s c.what c.done) calls call

-- all of the calls had ended by a moment, as a fact about each
abbrev pub AllBy : ℕ → List DiskCall → Type 0
AllBy t [] = Unit {0}
AllBy t (call ∷ calls) = (call.moment ≤ t) × AllBy t calls

pub each_by : (t : ℕ) (calls : List DiskCall) → IsTrue (all_by t calls) → AllBy t calls
each_by t [] all = tt
each_by t (call ∷ calls) all = elim (leb_tells call.moment t) [
  | inl tells ↦ (tells.1, each_by t calls (subst (λ (b : Bool). IsTrue (b && all_by t calls)) tells.0 all))
  | inr tells ↦ absurd (never (subst (λ (b : Bool). IsTrue (b && all_by t calls)) tells.0 all))
]
  where
    never : IsTrue false → ⊥
    never is = cc is

pub by_each : (t : ℕ) (calls : List DiskCall) → AllBy t calls → IsTrue (all_by t calls)
by_each t [] all = refl
by_each t (call ∷ calls) all = elim (leb_tells call.moment t) [
  | inl tells ↦ subst (λ (b : Bool). IsTrue (b && all_by t calls)) (sym tells.0) (by_each t calls all.1)
  | inr tells ↦ absurd (omega (arith, tells.1, all.0))
]

on_true : {X : Type 0} (b : Bool) (x y : X) → b ≡ true → (if b then x else y) ≡ x
on_true b x y is = ap (λ v. if v then x else y) is

on_false : {X : Type 0} (b : Bool) (x y : X) → b ≡ false → (if b then x else y) ≡ y
on_false b x y is = ap (λ v. if v then x else y) is

-- a call that has ended is there, and one that ends later isn't
there : (t : ℕ) (call : DiskCall) (calls : List DiskCall) → call.moment ≤ t → calls_by t (call ∷ calls) ≡ call ∷ calls_by t calls
there t call calls le = elim (leb_tells call.moment t) [
  | inl tells ↦ on_true (nat_le call.moment t) (call ∷ calls_by t calls) [] tells.0
  | inr tells ↦ absurd (omega (arith, tells.1, le))
]

not_there : (t : ℕ) (call : DiskCall) (calls : List DiskCall) → t < call.moment → calls_by t (call ∷ calls) ≡ []
not_there t call calls lt = elim (leb_tells call.moment t) [
  | inl tells ↦ absurd (omega (arith, tells.1, lt))
  | inr tells ↦ on_false (nat_le call.moment t) (call ∷ calls_by t calls) [] tells.0
]

-- from the last call on all are there
pub all_there : (t u : ℕ) (calls : List DiskCall) → AllBy t calls → t ≤ u → calls_by u calls ≡ calls
all_there t u [] all le = refl
all_there t u (call ∷ calls) all le = there u call calls (omega (arith, all.0, le)) ∙ ap (λ (l : List DiskCall). call ∷ l) (all_there t u calls all.1 le)

-- before a call it isn't there
pub not_yet : (t : ℕ) (calls : List DiskCall) (call : DiskCall) → t < call.moment → calls_by t (calls ++ call ∷ []) ≡ calls_by t calls
not_yet t [] call later = not_there t call [] later
not_yet t (c ∷ calls) call later = elim (leb_tells c.moment t) [
  | inl tells ↦ there t c (calls ++ call ∷ []) tells.1 ∙ ap (λ (l : List DiskCall). c ∷ l) (not_yet t calls call later) ∙ sym (there t c calls tells.1)
  | inr tells ↦ not_there t c (calls ++ call ∷ []) tells.1 ∙ sym (not_there t c calls tells.1)
]

pub all_push : (t u : ℕ) (calls : List DiskCall) (call : DiskCall) → AllBy t calls → t ≤ u → call.moment ≤ u → AllBy u (calls ++ call ∷ [])
all_push t u [] call all le last = (last, tt)
all_push t u (c ∷ calls) call all le last = (omega (arith, all.0, le), all_push t u calls call all.1 le last)

pub all_wider : (t u : ℕ) (calls : List DiskCall) → AllBy t calls → t ≤ u → AllBy u calls
all_wider t u [] all le = tt
all_wider t u (c ∷ calls) all le = (omega (arith, all.0, le), all_wider t u calls all.1 le)

-- a call more
pub failures_last : (calls : List DiskCall) (call : DiskCall) → failures (calls ++ call ∷ []) ≡ failures calls + (if call.done then 0 else 1)
failures_last [] call = omega arith
failures_last (c ∷ calls) call = omega (arith, failures_last calls call)

-- the laws of the trait
module _ (h : MemoryHistory) (in_order : IsTrue (all_by h.moment h.calls)) where
  all : AllBy h.moment h.calls
  all = each_by h.moment h.calls in_order

  pub now_is : (t : ℕ) → h.moment ≤ t → (image : List ℕ) → (memory_meaning h).line.left t image → IsCrash (after_calls (fresh h.start) h.calls) image
  now_is t le image left = subst (λ (l : List DiskCall). IsCrash (after_calls (fresh h.start) l) image) (all_there h.moment t h.calls all le) left

  pub is_now : (t : ℕ) → h.moment ≤ t → (image : List ℕ) → IsCrash (after_calls (fresh h.start) h.calls) image → (memory_meaning h).line.left t image
  is_now t le image crash = subst (λ (l : List DiskCall). IsCrash (after_calls (fresh h.start) l) image) (sym (all_there h.moment t h.calls all le)) crash

  pub memory_rests : Rests (memory_meaning h).line
  memory_rests = record {
    stands = λ t image le left. is_now h.moment (omega arith) image (now_is t le image left);
    lasts = λ t image le now. is_now t le image (now_is h.moment (omega arith) image now);
  }

  pub memory_reads : (file : List ℕ) → Some (reads_now h) ≡ Some file → IsImage (memory_meaning h).line file
  memory_reads file held =
      let same : reads_now h ≡ file = cc held in
      subst (IsImage (memory_meaning h).line) same (is_now h.moment (omega arith) (reads_now h) (reads_image (fresh h.start) h.calls refl))

pub memory_small : (bytes file : List ℕ) (h : MemoryHistory) → length bytes < 2 ^ 64 → bytes ≡ reads_now h → Some (reads_now h) ≡ Some file → length file < 2 ^ 64
memory_small bytes file h small as_read held = let same : bytes ≡ file = cc (held, as_read) in subst (λ (l : List ℕ). length l < 2 ^ 64) same small
