-- The trees that files can hold, and the bytes that hold each. Assumes nothing.
use Rattle.std.specs.Prelude.{◌≡◌, ℕ, ◌/◌, ◌%◌, ◌<◌, ◌≤◌, Bool, true, false, ◌↔◌, List, [], ◌∷◌, ◌++◌, length, Ok}
use Rattle.std.specs.List.{flat_map, AllByRecursion}
use Rattle.model.specs.Order.{Sorted}
use Rattle.model.specs.Spelling.{Between, spell_text}
use Rattle.model.specs.Tree.{Tree}
use Rattle.model.specs.TreeFiles.{any_name, hollow, linked_tree, path_tree, read_linked_tree, read_path_tree}

-- WELL-FORMED CONTENTS

abbrev pub Unlike : List ℕ → List ℕ → Type 0
Unlike s t = s ≡ t → ⊥

-- names, none of which the file may not have
pub record NamesFit (wrong : List ℕ → Bool) (names : List (List ℕ)) : Type 0 where
  pub few : length names ≤ 1024
  pub each : AllByRecursion (λ t. Between 1 64 (length t) × (wrong t ≡ false)) names
  pub apart : Sorted Unlike names

pub record LinksFit (nodes : ℕ) (links : List (ℕ × ℕ)) : Type 0 where
  pub few : length links ≤ 4096
  pub each : AllByRecursion (λ l. (l.0 < nodes) × (l.1 < nodes)) links

-- THEIR SPELLING

-- the high byte first
abbrev pub spell_wide : ℕ → List ℕ
spell_wide n = (n / 256) ∷ (n % 256) ∷ []

-- a count of two bytes and as many items
abbrev pub spell_many : {X : Type 0} → (X → List ℕ) → List X → List ℕ
spell_many f xs = spell_wide (length xs) ++ flat_map f xs

abbrev pub spell_link : ℕ × ℕ → List ℕ
spell_link l = spell_wide l.0 ++ spell_wide l.1

-- every number of a file is a byte
abbrev pub Bytes : List ℕ → Type 0
Bytes bs = AllByRecursion (λ b. b < 256) bs

pub record LinkedSpelling (bytes : List ℕ) (tree : Tree) : Type 0 where
  pub names : List (List ℕ)
  pub links : List (ℕ × ℕ)
  pub names_fit : NamesFit any_name names
  pub links_fit : LinksFit (length names) links
  pub spelled : bytes ≡ spell_many spell_text names ++ spell_many spell_link links
  pub meant : tree ≡ linked_tree names links

pub record PathSpelling (bytes : List ℕ) (tree : Tree) : Type 0 where
  pub names : List (List ℕ)
  pub names_fit : NamesFit (hollow true) names
  pub spelled : bytes ≡ spell_many spell_text names
  pub meant : tree ≡ path_tree names

-- files are accepted exactly where they are the spelling of a well-formed content, and that is the one read
abbrev pub TreesAcceptedExactly : Type 0
TreesAcceptedExactly = (bytes : List ℕ) (tree : Tree) → Bytes bytes →
    ((read_linked_tree bytes ≡ Ok tree) ↔ LinkedSpelling bytes tree) × ((read_path_tree bytes ≡ Ok tree) ↔ PathSpelling bytes tree)
