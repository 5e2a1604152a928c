-- Names and whole files, step by step as the code reads them. Assumes nothing.
use Rattle.std.proofs.Common.{◌≡◌, ℕ, Bool, true, false, cond, List, [], ◌∷◌, drop, Ok, sym, refl, ap, ◌∙◌, ap₂}
use Rattle.model.specs.Layout.{Reading, got, Reader, on, refuse, text, end, outcome}
use Rattle.model.specs.Tree.{Tree}
use Rattle.model.specs.TreeFiles.{among, new_name, name_list}
use Rattle.wire.specs.declared.reader.Reader.{Reader as Stand}
use Rattle.wire.specs.Told.{from}
use Rattle.tree_files.specs.Format.{read_tree}

module _ (wrong : List ℕ → Bool) (earlier : List (List ℕ)) (p : ℕ) (bs : List ℕ) (t : List ℕ) (q : ℕ) (cs : List ℕ) (read : got t q cs ≡ text 1 64 p bs) (right : wrong t ≡ false) where
  abbrev checked : Bool → Reading (List ℕ)
  checked b = cond b (refuse 16 p bs) (got t q cs)

  by_test : new_name wrong earlier p bs ≡ checked (among earlier t)
  by_test =
      ap (λ z. on (on z (λ x q cs. cond (wrong x) (refuse 18 p bs) (got x q cs))) (λ x q cs. cond (among earlier x) (refuse 16 p bs) (got x q cs))) (sym read)
      ∙ ap (λ b. on (cond b (refuse 18 p bs) (got t q cs)) (λ x q cs. cond (among earlier x) (refuse 16 p bs) (got x q cs))) right

  pub name_repeated : among earlier t ≡ true → refuse 16 p bs ≡ new_name wrong earlier p bs
  name_repeated a = sym (by_test ∙ ap checked a)

  pub name_new : among earlier t ≡ false → got t q cs ≡ new_name wrong earlier p bs
  name_new a = sym (by_test ∙ ap checked a)

-- THE END OF A FILE

module _ {X : Type 0} (x : X) (p : ℕ) where
  pub end_reached : (l : List ℕ) (u : Unit {0}) (q : ℕ) (m : List ℕ) → got u q m ≡ end tt p l → end x p l ≡ got x p []
  end_reached [] u q m h = refl
  end_reached (b ∷ bs) u q m h = cc

-- A WHOLE FILE

-- read from its first byte, with nothing left after what follows the names
pub tree_read : (wrong : List ℕ → Bool) (after_names : List (List ℕ) → Reader Tree) (file : List ℕ) (first named last : Stand) (texts : List (List ℕ)) (tree : Tree) (u : Unit {0})
    → first.bytes.now ≡ file → first.place ≡ 0
    → got texts named.place (drop named.place named.bytes.now) ≡ from first (name_list wrong)
    → got tree last.place (drop last.place last.bytes.now) ≡ from named (after_names texts)
    → got u last.place (drop last.place last.bytes.now) ≡ from last (end tt)
    → Ok tree ≡ read_tree wrong after_names file
tree_read wrong after_names file first named last texts tree u whole begins names links ended =
    let start : from first (name_list wrong) ≡ name_list wrong 0 file = ap₂ (λ p bs. name_list wrong p (drop p bs)) begins whole in
    let rest = drop last.place last.bytes.now in
    sym (
    ap (λ z. outcome (on (on z after_names) end)) (sym start ∙ sym names)
    ∙ ap (λ z. outcome (on z end)) (sym links)
    ∙ ap outcome (end_reached tree last.place rest u last.place rest ended)
    )
