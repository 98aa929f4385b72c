-- The style of a picture: letters, lines, fills and the sixteen colours.
use Rattle.std.specs.Prelude.{ℕ, List, ◌++◌, codes}

unfoldable pub style : List ℕ
style =
    codes "<style>\n"
    ++ (codes "text{font:11px \"DejaVu Sans Mono\",Menlo,Consolas,monospace;fill:#222}\n"
    ++ (codes ".h{font-weight:bold;font-size:13px}.n{font-size:9px}.e{text-anchor:end}.m{text-anchor:middle}.i{fill:#fff}\n"
    ++ (codes ".g{stroke:#e0e0e0}.G{stroke:#aaa}.b{stroke:#222}\n"
    ++ (codes ".o{fill:#fff}.y{fill:#888}.z{fill:url(#dots)}.w{fill:#f2f2f2;stroke:#777;stroke-dasharray:3 2}\n"
    ++ (codes ".B{fill:#c8c8c8;stroke:#222}.s{fill:url(#hatch);stroke:#222;stroke-width:.6}.p{fill:#222}.k{fill:url(#teeth)"
    ++ (codes "}\n"
    ++ (codes ".r,.d,.M,.c{fill:none;stroke:#222;stroke-width:1.4}.M{stroke:#d00000;stroke-width:3}.c{stroke-width:2.4}\n"
    ++ (codes ".c0{fill:#77aadd}.c1{fill:#ee8866}.c2{fill:#44bb99}.c3{fill:#ffaabb}.c4{fill:#eedd88}.c5{fill:#bbcc33}.c6{fi"
    ++ (codes "ll:#99ddff}.c7{fill:#a0a000}.c8{fill:#332288}.c9{fill:#882255}.c10{fill:#117733}.c11{fill:#994400}.c12{fill:"
    ++ (codes "#005f73}.c13{fill:#7a3db8}.c14{fill:#111111}.c15{fill:#b3002d}\n"
    ++ (codes "</style>\n"
    ++ (codes "<defs><pattern id=\"hatch\" width=\"4\" height=\"4\" patternUnits=\"userSpaceOnUse\"><rect width=\"4\" height=\"4\" fill"
    ++ (codes "=\"#fff\"/><path d=\"M-1 1l2-2M0 4l4-4M3 5l2-2\" stroke=\"#222\"/></pattern><pattern id=\"dots\" width=\"5\" height=\"4"
    ++ (codes "\" patternUnits=\"userSpaceOnUse\"><rect width=\"2\" height=\"4\" fill=\"#555\"/></pattern><pattern id=\"teeth\" width="
    ++ codes "\"6\" height=\"4\" patternUnits=\"userSpaceOnUse\"><path d=\"M0 4l3-4l3 4z\" fill=\"#0050b0\"/></pattern></defs>\n"
    ))))))))))))))
