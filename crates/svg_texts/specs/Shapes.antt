-- The lines of a picture: rectangles, words and paths. Positions and sizes are whole numbers of pixels.
use Rattle.std.specs.Prelude.{ℕ, ◌-◌, List, ◌∷◌, ◌++◌, codes, decimal}

-- a blank, a name, and a value in quotes
abbrev pub attribute : List ℕ → List ℕ → List ℕ
attribute name value = 32 ∷ name ++ (codes "=\"" ++ (value ++ codes "\""))

abbrev pub number : List ℕ → ℕ → List ℕ
number name n = attribute name (decimal n)

unfoldable pub rect : List ℕ → ℕ → ℕ → ℕ → ℕ → List ℕ
rect c x y w h =
    codes "<rect"
    ++ (attribute (codes "class") c
    ++ (number (codes "x") x
    ++ (number (codes "y") y
    ++ (number (codes "width") w
    ++ (number (codes "height") h
    ++ codes "/>\n")))))

unfoldable pub words : List ℕ → ℕ → ℕ → List ℕ → List ℕ
words c x y s =
    codes "<text"
    ++ (attribute (codes "class") c
    ++ (number (codes "x") x
    ++ (number (codes "y") y
    ++ (codes ">"
    ++ (s
    ++ codes "</text>\n")))))

unfoldable pub path : List ℕ → List ℕ → List ℕ
path c d = codes "<path" ++ (attribute (codes "class") c ++ (attribute (codes "d") d ++ codes "/>\n"))

-- where a path begins
abbrev pub point : ℕ → ℕ → List ℕ
point x y = 77 ∷ decimal x ++ (32 ∷ decimal y)

unfoldable pub line : List ℕ → ℕ → ℕ → ℕ → ℕ → List ℕ
line c x y dx dy = path c (point x y ++ (codes "h" ++ (decimal dx ++ (codes "v" ++ decimal dy))))

-- an arrow up, an arrow down, and a T
unfoldable pub release : ℕ → ℕ → List ℕ
release x y = path (codes "r") (point x y ++ codes "v-34l-3 6m3-6l3 6")

unfoldable pub deadline : List ℕ → ℕ → ℕ → List ℕ
deadline c x y = path c (point x (y - 34) ++ codes "v34l-3-6m3 6l3-6")

unfoldable pub end : ℕ → ℕ → List ℕ
end x y = path (codes "c") (point x y ++ codes "v-25m-5 0h10")
