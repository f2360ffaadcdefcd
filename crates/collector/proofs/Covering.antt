-- That what isn't safe is reached from no root, and that shading and taking nodes keep the cover.
use Rattle.std.specs.Prelude.{◌≡◌, ℕ, zero, suc, Bool, true, false, ◌||◌, ◌&&◌, not, List, Option, None, Some, is_some, option_map, ◌⊎◌, refl}
use Rattle.std.proofs.Common.{ap, sym, subst, inl, inr}
use Rattle.ddc_names.specs.declared.hash.IoHash.{IoHash}
use Rattle.cb_fields.specs.declared.links.Link.{Link}
use Rattle.cb_fields.specs.declared.links.LinkKind.{LinkKind}
use Rattle.cb_fields.specs.declared.links.LinkKind.TheVariants.{Object, Binary}
use Rattle.ddc_model.specs.declared.rows.Blob.{Blob}
use Rattle.ddc_model.specs.State.{State, blob_at, has_blob}
use Rattle.ddc_model.specs.Closure.{links_in, object, LeadsTo, LeadsToIn}
use Rattle.collector.specs.Marks.{Marks, is_marked, is_grey, is_safe, NoneGrey}
use Rattle.collector.specs.Roots.{IsRootNode}
use Rattle.collector.specs.Cover.{Covers}
use Rattle.collector.specs.Sweeping.{LooseIsUnreached}

-- what has links is there
there : (o : Option Blob) (found : List Link) → option_map (λ (blob : Blob). blob.links) o ≡ Some found → is_some o ≡ true
there None found e = absurd (cc)
there (Some blob) found e = refl

-- ---- what isn't safe is unreached

-- of an object that is safe, where it isn't grey, its own node is marked
marked_if : (a b c d : Bool) → b ≡ false → d ≡ false → c ≡ a → ((a || b) || (c || d)) ≡ true → a ≡ true
marked_if true b c d p q r e = refl
marked_if false b c d p q r e = absurd (cc)

its_node : (node : Link) → node.kind ≡ Object → object node.hash ≡ node
its_node node e = ap (λ (k : LinkKind). let n : Link = record { kind = k; hash = node.hash } in n) (sym e)

module _ (s : State) (leased : List IoHash) (c : Marks) (covers : Covers s leased c) (none : NoneGrey c) (root : Link) (is_root : IsRootNode s c.space leased c.hour root ⊎ (is_safe c root ≡ true)) where
  from_root : IsRootNode s c.space leased c.hour root ⊎ (is_safe c root ≡ true) → has_blob s c.space root.hash ≡ true → is_safe c root ≡ true
  from_root (inl r) here = covers.roots root r here
  from_root (inr e) here = e

  pub reached_is_safe : (node : Link) (n : ℕ) → LeadsToIn (links_in s c.space) root node n → has_blob s c.space node.hash ≡ true → is_safe c node ≡ true
  reached_is_safe node zero w here =
      subst (λ (n : Link). is_safe c n ≡ true) w (from_root is_root (subst (λ (n : Link). has_blob s c.space n.hash ≡ true) (sym w) here))
  reached_is_safe node (suc n) w here =
      let before : Link = w.0 in
      let leads : LeadsTo (links_in s c.space) before node = w.2 in
      let is_there : has_blob s c.space before.hash ≡ true = there (blob_at s c.space before.hash) leads.1 leads.2 in
      let safe : is_safe c before ≡ true = reached_is_safe before n w.1 is_there in
      let marked : is_marked c before ≡ true =
      marked_if (is_marked c before) (is_grey c before) (is_marked c (object before.hash)) (is_grey c (object before.hash)) (none before) (none (object before.hash)) (ap (is_marked c) (its_node before leads.0)) safe in
      covers.links before node marked (none before) leads here

both : (a b : Bool) → (a && not b) ≡ true → (a ≡ true) × (b ≡ false)
both true true h = absurd (cc)
both true false h = (refl, refl)
both false b h = absurd (cc)

-- a binary that isn't safe is safe as an object neither
none_of_both : (a b c : Bool) → (a || b) ≡ false → c ≡ b → (c || c) ≡ true → ⊥
none_of_both true b c e f g = absurd (cc)
none_of_both false true c e f g = absurd (cc)
none_of_both false false true e f g = absurd (cc)
none_of_both false false false e f g = absurd (cc)

either_kind : (c : Marks) (hash : IoHash) (kind : LinkKind) → is_safe c (record { kind = Binary; hash = hash }) ≡ false → is_safe c (record { kind = kind; hash = hash }) ≡ true → ⊥
either_kind c hash Binary f t = absurd (cc)
either_kind c hash Object f t = none_of_both (is_marked c (record { kind = Binary; hash = hash }) || is_grey c (record { kind = Binary; hash = hash })) (is_marked c (object hash) || is_grey c (object hash)) (is_marked c (object hash) || is_grey c (object hash)) f refl t

pub loose_unreached : LooseIsUnreached
loose_unreached s leased c covers none hash loose kind reached =
    let parts : (has_blob s c.space hash ≡ true) × (is_safe c (record { kind = Binary; hash = hash }) ≡ false) = both (has_blob s c.space hash) (is_safe c (record { kind = Binary; hash = hash })) loose in
    let node : Link = record { kind = kind; hash = hash } in
    either_kind c hash kind parts.1 (reached_is_safe s leased c covers none reached.0 reached.1 node reached.2 reached.3 parts.0)
