-- The links of an object take bytes of it.
use Rattle.std.specs.Prelude.{◌≡◌, ℕ, ◌*◌, ◌≤◌, Bool, true, false, List, ◌++◌, length}
use Rattle.std.proofs.Common.{ap, arith, length-append}
use Rattle.cb_fields.specs.declared.links.Link.{Link}
use Rattle.cb_fields.specs.declared.shape.Shape.{Shape}
use Rattle.cb_fields.specs.Language.{IsPlain, fixed, attachment, number, sized, Class, Spells, plain, container, none, more}
use Rattle.ddc_model.specs.Content.{AreLinksOf}
use Rattle.ddc_model.specs.Laws.{LinksFit}

plain_fits : (shape : Shape) (p : List ℕ) (links : List Link) → IsPlain shape p links → 20 * length links ≤ length p
plain_fits _ p _ (fixed e) = omega arith
plain_fits _ p _ (attachment e) = omega arith
plain_fits _ p _ (number n h) = omega arith
plain_fits _ p _ (sized xs h) = omega arith

spelled_fits : {class : Class} (bytes : List ℕ) (links : List Link) → Spells class bytes links → 20 * length links ≤ length bytes
spelled_fits _ links (plain start p s h) = let fits = plain_fits _ p links h in let long = length-append start p in omega arith
spelled_fits _ links (container start front xs contents s o h) =
    let fits = spelled_fits xs links h in
    let long = length-append start (front ++ xs) in
    let inside = length-append front xs in
    omega arith
spelled_fits _ _ (none h) = omega arith
spelled_fits _ _ (more f fs ls ms h first rest) =
    let left = spelled_fits f ls first in
    let right = spelled_fits fs ms rest in
    let bytes = length-append f fs in
    let links = length-append ls ms in
    omega arith

read_fits : (bytes : List ℕ) (is_object : Bool) (links : List Link) → AreLinksOf bytes is_object links → 20 * length links ≤ length bytes
read_fits bytes true links h = spelled_fits bytes links h.field
read_fits bytes false links h = let few : length links ≡ 0 = ap length h.1 in omega arith

pub links_take_bytes : LinksFit
links_take_bytes content h = read_fits content.bytes content.is_object content.links h
