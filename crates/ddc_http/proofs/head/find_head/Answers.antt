use Rattle.std.proofs.Common.{◌≡◌, ℕ, ◌≤◌, List, take, drop, length, subst, arith, take-append-drop}
use Rattle.std.proofs.lemmas.List.{length-take-le}
use Rattle.ddc_http.specs.declared.head.Found.{Found}
use Rattle.ddc_http.specs.declared.head.Found.TheVariants.{More, Never, Head}
use Rattle.ddc_http.specs.inside.Parts.{FindsHead, FindsHeadIn}
use Rattle.ddc_protocol.specs.Requests.{NeverHasHead}
use Rattle.ddc_http.proofs.Heads.{head_at-widen, never-overflows, never-full}
use Rattle.ddc_http.proofs.head.find_head.Goals as goal

widen : (bytes : List ℕ) (n : ℕ) (found : Found) → n ≤ length bytes → n ≤ 16384 → (found ≡ More → ⊥) → FindsHeadIn (take n bytes) found → FindsHead bytes found
widen bytes n More fits small other h = absurd (other (λ _. More))
widen bytes n Never fits small other h = let P : List ℕ → Type 0 = NeverHasHead in subst P (take-append-drop n bytes) (never-overflows (take n bytes) (drop n bytes) h)
widen bytes n (Head len asks) fits small other h =
    let P : List ℕ → Type 0 = λ b. FindsHead b (Head len asks) in
    subst P (take-append-drop n bytes) (head_at-widen (take n bytes) (drop n bytes) len asks (omega (arith, length-take-le n bytes fits)) h)

pub returns-else-window-lt-MOST_HEAD : goal.returns-else-window-lt-MOST_HEAD
returns-else-window-lt-MOST_HEAD c =
    let P : List ℕ → Type 0 = NeverHasHead in
    subst P (take-append-drop c.min.result c.args.bytes.now)
    (never-full (take c.min.result c.args.bytes.now) (drop c.min.result c.args.bytes.now) (omega arith) c.in-More.ensures)

pub returns-in_default : goal.returns-in_default
returns-in_default c = widen c.args.bytes.now c.min.result c.head_in.result (omega arith) (omega arith) c.in_default.not-More c.head_in.ensures
