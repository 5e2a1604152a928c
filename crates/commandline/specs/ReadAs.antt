-- As what a file of any kind is read where a tree or a decision point is asked for. Assumes nothing.
use Rattle.commandline.specs.declared.command.Kind.{Kind}
use Rattle.commandline.specs.declared.command.Kind.TheVariants.{Request, Tree, Point}
use Rattle.commandline.specs.declared.command.TreeKind.{TreeKind}
use Rattle.commandline.specs.declared.command.TreeKind.TheVariants.{Linked}
use Rattle.commandline.specs.declared.command.PointKind.{PointKind}
use Rattle.commandline.specs.declared.command.PointKind.TheVariants.{Grants}

abbrev pub tree_kind_of : Kind → TreeKind
tree_kind_of Request = Linked
tree_kind_of (Tree kind) = kind
tree_kind_of (Point kind) = Linked

abbrev pub point_kind_of : Kind → PointKind
point_kind_of Request = Grants
point_kind_of (Tree kind) = Grants
point_kind_of (Point kind) = kind
